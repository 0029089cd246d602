-- `cap`: what the bands pay, what the packages cost and what is above worths have room in 64 bits.
use Rattle.std.proofs.Common.{ℕ, List, sym, ap, ◌∙◌, ap₂, subst, arith}
use Rattle.std.proofs.lemmas.Int.{ints}
use Rattle.clearing.specs.declared.tallies.Tally.{Tally}
use Rattle.clearing.specs.Tallies.{plus}
use Rattle.clearing.proofs.Ruled.{income-is}
use Rattle.clearing.proofs.Sellings.{Sold, sold_in_all}
use Rattle.clearing.proofs.Takings.{taken-bounded, taken-priced}
use Rattle.clearing.proofs.Tallying.{Bounded, Priced}
use Rattle.bounds.specs.Rules.{sold_above}
use Rattle.bounds.proofs.Supplies.{Few}
use Rattle.bounds.proofs.tangent.cap.Goals as goal

pub overflow_cast-surplus : goal.overflow_cast-surplus
overflow_cast-surplus c =
    let sold = subst Sold (sym c.sell-sales.ensures) (sold_in_all c.args.first.now.supply c.supply_of-free.ensures.ranged) in
    omega (arith, ints, sold.income)

pub overflow_sub-surplus : goal.overflow_sub-surplus
overflow_sub-surplus c =
    let sold = subst Sold (sym c.sell-sales.ensures) (sold_in_all c.args.first.now.supply c.supply_of-free.ensures.ranged) in
    let cost = subst Priced (sym c.requires) (taken-priced c.supply_of-free.ensures.ranged c.args.block.first) in
    omega (arith, ints, sold.income, cost.low, cost.high)

pub together-all-requires : goal.together-all-requires
together-all-requires c =
    let fixed = subst (Bounded 400000000) (sym c.requires) (taken-bounded c.supply_of-free.ensures.ranged c.args.block.first) in
    let free = subst Few (sym c.supply_of-free.ensures.supply) (taken-bounded c.supply_of-free.ensures.ranged c.args.live).supply in
    record { one = fixed.supply; other = free }

pub overflow_add-result : goal.overflow_add-result
overflow_add-result c =
    let sold = subst Sold (sym c.sell-sales.ensures) (sold_in_all c.args.first.now.supply c.supply_of-free.ensures.ranged) in
    let cost = subst Priced (sym c.requires) (taken-priced c.supply_of-free.ensures.ranged c.args.block.first) in
    omega (arith, ints, sold.income, cost.low, cost.high)

pub overflow_add-result-2 : goal.overflow_add-result-2
overflow_add-result-2 c =
    let sold = subst Sold (sym c.sell-sales.ensures) (sold_in_all c.args.first.now.supply c.supply_of-free.ensures.ranged) in
    let cost = subst Priced (sym c.requires) (taken-priced c.supply_of-free.ensures.ranged c.args.block.first) in
    omega (arith, ints, sold.income, cost.low, cost.high)

pub returns : goal.returns
returns c =
    let d = c.args.docket.now in
    let t = c.args.first.now in
    let sold = subst Sold (sym c.sell-sales.ensures) (sold_in_all t.supply c.supply_of-free.ensures.ranged) in
    let cost = subst Priced (sym c.requires) (taken-priced c.supply_of-free.ensures.ranged c.args.block.first) in
    let income = income-is c.supply_of-free.ensures.ranged c.args.block.first t c.sell-sales.result c.requires c.sell-sales.ensures in
    let costs = ap (λ (t : Tally). t.cost) c.requires in
    let all = c.together-all.ensures ∙ ap₂ (λ (one : Tally) (other : List ℕ). plus one.supply other) c.requires c.supply_of-free.ensures.supply in
    let above =
    c.sold_above-sold.ensures.value
    ∙ ap₂ (sold_above c.args.multipliers.now d.bands) (ap (λ (t : Tally). t.supply) c.requires) all in
    omega (arith, ints, income, costs, above, sold.income, cost.low, cost.high, c.gains_above.ensures.value)
