-- `dates_stand`: what is tested over the sums and the sales is what is asked of the packages, and the sums have room.
use Rattle.std.proofs.Common.{sym, subst}
use Rattle.clearing.specs.Choices.{taken}
use Rattle.clearing.proofs.Judged.{dates-tested}
use Rattle.clearing.proofs.Sellings.{Sold, sold_in_all}
use Rattle.clearing.proofs.Takings.{taken-bounded}
use Rattle.clearing.proofs.Tallying.{Bounded}
use Rattle.clearing.proofs.lawful.dates_stand.Goals as goal

pub dates_kept-requires : goal.dates_kept-requires
dates_kept-requires c =
    let sums = subst (Bounded 400000000) (sym c.new-dated.ensures.tally) (taken-bounded c.new-dated.ensures.ranged c.args.first) in
    let sold = subst Sold (sym c.sell-sales.ensures) (sold_in_all c.new-selling.result.supply c.new-dated.ensures.ranged) in
    record { before = sums.before; after = sums.after; sold = sold.sold }

pub returns : goal.returns
returns c =
    dates-tested c.new-dated.ensures.ranged (taken c.args.docket.now.packages c.args.first) c.new-dated.result c.new-dated.ensures.tally
    c.args.last c.new-selling.result c.sell-sales.result c.new-selling.ensures.tally c.sell-sales.ensures c.dates_kept.result c.dates_kept.ensures
