-- `unlimited_surplus`: what the bands pay less what the packages cost has room in 64 bits.
use Rattle.std.proofs.Common.{pos, ◌-ℤ◌, sym, ap, ◌∙◌, subst, ap₂, arith}
use Rattle.std.proofs.lemmas.Int.{ints}
use Rattle.clearing.proofs.Ruled.{income-is, worth-stored}
use Rattle.clearing.proofs.Sellings.{Sold, sold_in_all}
use Rattle.clearing.proofs.Takings.{taken-priced}
use Rattle.clearing.proofs.Tallying.{Priced}
use Rattle.bounds.proofs.one_by_one.unlimited_surplus.Goals as goal

pub overflow_cast-result : goal.overflow_cast-result
overflow_cast-result c =
    let sold = subst Sold (sym c.sell-sales.ensures) (sold_in_all c.new-taken.result.supply c.new-taken.ensures.ranged) in
    omega (arith, ints, sold.income)

pub overflow_sub-result : goal.overflow_sub-result
overflow_sub-result c =
    let sold = subst Sold (sym c.sell-sales.ensures) (sold_in_all c.new-taken.result.supply c.new-taken.ensures.ranged) in
    let cost = subst Priced (sym c.new-taken.ensures.tally) (taken-priced c.new-taken.ensures.ranged c.args.choice) in
    omega (arith, ints, sold.income, cost.low, cost.high)

pub returns : goal.returns
returns c =
    let d = c.args.docket.now in
    let t = c.new-taken.result in
    let s = c.sell-sales.result in
    let sold = subst Sold (sym c.sell-sales.ensures) (sold_in_all t.supply c.new-taken.ensures.ranged) in
    let cost = subst Priced (sym c.new-taken.ensures.tally) (taken-priced c.new-taken.ensures.ranged c.args.choice) in
    record {
      value =
          worth-stored t s cost sold
          ∙ ap₂ (λ n z. pos n -ℤ z) (income-is c.new-taken.ensures.ranged c.args.choice t s c.new-taken.ensures.tally c.sell-sales.ensures) (ap (λ t. t.cost) c.new-taken.ensures.tally);
      low = omega (arith, ints, sold.income, cost.low, cost.high);
      high = omega (arith, ints, sold.income, cost.low, cost.high);
    }
