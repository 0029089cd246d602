-- `consult` of all-in: what the bands pay and what the packages cost have room in 64 bits.
use Rattle.std.proofs.Common.{Some, sym, refl, ap, ◌∙◌, subst, arith}
use Rattle.std.proofs.lemmas.Int.{ints}
use Rattle.clearing.specs.Lawful.{income, filled_sales}
use Rattle.clearing.proofs.Ruled.{income-is}
use Rattle.clearing.proofs.Sellings.{Sold, sold_in_all}
use Rattle.bounds.proofs.all_in.AllInBoundingRule.consult.Goals as goal

pub overflow_cast-result : goal.overflow_cast-result
overflow_cast-result c =
    let sold = subst Sold (sym c.sell-sales.ensures) (sold_in_all c.new-all.result.supply c.new-all.ensures.ranged) in
    omega (arith, ints, sold.income)

pub overflow_sub-result : goal.overflow_sub-result
overflow_sub-result c =
    let sold = subst Sold (sym c.sell-sales.ensures) (sold_in_all c.new-all.result.supply c.new-all.ensures.ranged) in
    omega (arith, ints, sold.income, c.least_cost.ensures.low, c.least_cost.ensures.high)

pub returns : goal.returns
returns c =
    let d = c.args.docket.now in
    let sold = subst Sold (sym c.sell-sales.ensures) (sold_in_all c.new-all.result.supply c.new-all.ensures.ranged) in
    let brings =
    income-is c.new-all.ensures.ranged c.last.result c.new-all.result c.sell-sales.result c.new-all.ensures.tally c.sell-sales.ensures
    ∙ ap (λ choice. income d.bands (filled_sales d choice)) c.last.ensures in
    let costs = c.least_cost.ensures in
    record {
      answer = λ block. ap Some (omega (arith, ints, brings, sold.income, costs.value, costs.low, costs.high));
      same = refl;
    }
