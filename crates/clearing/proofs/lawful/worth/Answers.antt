-- `worth`: the rules tested over the sums are those of a lawful choice, and the sums have room.
use Rattle.std.proofs.Common.{ℕ, List, pos, ◌-ℤ◌, Some, None, sym, refl, ap, ◌∙◌, subst, ap₂, arith}
use Rattle.std.proofs.lemmas.Int.{ints}
use Rattle.std.proofs.lemmas.Bool.Decides.{not_from_Decides}
use Rattle.clearing.specs.Judging.{worth_of}
use Rattle.clearing.specs.Lawful.{Lawful, Worth}
use Rattle.clearing.proofs.Tallying.{Bounded, Priced}
use Rattle.clearing.proofs.Takings.{taken-bounded, taken-priced}
use Rattle.clearing.proofs.Sellings.{Sold, sold_in_all}
use Rattle.clearing.proofs.Filling.{best-filled, filled_within}
use Rattle.clearing.proofs.Judged.{worth_tells, worth-once}
use Rattle.clearing.proofs.Ruled.{Ruled, lawful-from, ruled_from, income-is, worth-stored}
use Rattle.clearing.proofs.lawful.worth.Goals as goal
use Rattle.clearing.proofs.lawful.worth.Goals.{else-pairs_kept-via-then-pairs_kept+then-exclusions_kept+then-zones_kept+else-dates_kept, else-pairs_kept-via-then-pairs_kept+then-exclusions_kept+else-zones_kept, else-pairs_kept-via-then-pairs_kept+else-exclusions_kept, else-pairs_kept-via-else-pairs_kept}

pub dates_kept-requires : goal.dates_kept-requires
dates_kept-requires c =
    let sums = subst (Bounded 400000000) (sym c.new-tally.ensures.tally) (taken-bounded c.new-tally.ensures.ranged c.args.choice) in
    let sold = subst Sold (sym c.sell-sales.ensures) (sold_in_all c.new-tally.result.supply c.new-tally.ensures.ranged) in
    record { before = sums.before; after = sums.after; sold = sold.sold }

pub overflow_cast-result : goal.overflow_cast-result
overflow_cast-result c =
    let sold = subst Sold (sym c.sell-sales.ensures) (sold_in_all c.new-tally.result.supply c.new-tally.ensures.ranged) in
    omega (arith, ints, sold.income)

pub overflow_sub-result : goal.overflow_sub-result
overflow_sub-result c =
    let sold = subst Sold (sym c.sell-sales.ensures) (sold_in_all c.new-tally.result.supply c.new-tally.ensures.ranged) in
    let cost = subst Priced (sym c.new-tally.ensures.tally) (taken-priced c.new-tally.ensures.ranged c.args.choice) in
    omega (arith, ints, sold.income, cost.low, cost.high)

pub returns-then-dates_kept : goal.returns-then-dates_kept
returns-then-dates_kept c =
    let d = c.args.docket.now in
    let ok = c.new-tally.ensures.ranged in
    let choice = c.args.choice in
    let t = c.new-tally.result in
    let s = c.sell-sales.result in
    let sold = subst Sold (sym c.sell-sales.ensures) (sold_in_all t.supply ok) in
    let cost = subst Priced (sym c.new-tally.ensures.tally) (taken-priced ok choice) in
    let rules : Ruled d t s = record {
      pairs = c.if-pairs_kept.ensures.0 refl;
      exclusions = c.if-exclusions_kept.ensures.0 refl;
      zones = c.if-zones_kept.ensures.0 refl;
      dates = c.if-dates_kept.ensures.0 refl;
    } in
    let worth : Worth d choice (Some _) = (
      lawful-from ok choice t s c.new-tally.ensures.tally c.sell-sales.ensures (λ m. filled_within d choice m ok.order ok.bands) rules,
      worth-stored t s cost sold
          ∙ ap₂ (λ n z. pos n -ℤ z) (income-is ok choice t s c.new-tally.ensures.tally c.sell-sales.ensures) (ap (λ t. t.cost) c.new-tally.ensures.tally),
    ) in
    record {
      value = worth-once d choice (Some _) (worth_of d choice) worth (worth_tells d ok choice);
      worth = worth;
      best_filled = best-filled d choice ok.order ok.bands;
    }

pub returns-else-pairs_kept : goal.returns-else-pairs_kept
returns-else-pairs_kept c =
    let d = c.args.docket.now in
    let ok = c.new-tally.ensures.ranged in
    let choice = c.args.choice in
    let best = best-filled d choice ok.order ok.bands in
    let rules = λ (sales : List ℕ) (lawful : Lawful d choice sales). ruled_from ok choice c.new-tally.result c.sell-sales.result c.new-tally.ensures.tally c.sell-sales.ensures (best.lawful sales lawful) in
    let worth : Worth d choice None = λ sales lawful.
    elim c.else-pairs_kept.branch [
      | else-pairs_kept-via-then-pairs_kept+then-exclusions_kept+then-zones_kept+else-dates_kept w ↦
          not_from_Decides _ w.dates_kept.ensures w.if-dates_kept.false (rules sales lawful).dates
      | else-pairs_kept-via-then-pairs_kept+then-exclusions_kept+else-zones_kept w ↦
          not_from_Decides _ w.zones_kept.ensures w.if-zones_kept.false (rules sales lawful).zones
      | else-pairs_kept-via-then-pairs_kept+else-exclusions_kept w ↦
          not_from_Decides _ w.exclusions_kept.ensures w.if-exclusions_kept.false (rules sales lawful).exclusions
      | else-pairs_kept-via-else-pairs_kept w ↦
          not_from_Decides _ c.pairs_kept.ensures w.if-pairs_kept.false (rules sales lawful).pairs
    ] in
    record {
      value = worth-once d choice None (worth_of d choice) worth (worth_tells d ok choice);
      worth = worth;
      best_filled = best;
    }
