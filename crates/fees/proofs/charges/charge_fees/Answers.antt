-- `charge_fees`: what is written are the fees on the values, and a docket's values are fair to charge.
use Rattle.std.specs.List.{sum}
use Rattle.std.proofs.Common.{◌≡◌, ℕ, true, ◌++◌, List, map, drop, Ok, sym, ap, ◌∙◌, rules}
use Rattle.fees.specs.Charges.{fees, Charge}
use Rattle.fees.specs.Fees.{rates_in_range, fee}
use Rattle.fees.proofs.Fairness.{fair, charged, values_of}
use Rattle.fees.proofs.charges.charge_fees.Goals as goal

pub returns-clause-answer : goal.returns-clause-answer
returns-clause-answer c =
    let rates = c.args.rates in
    let ok : rates_in_range rates ≡ true = search rules in
    let is = values_of c.args.docket.now c.args.choice c.supply_of.result c.values-values.result c.supply_of.ensures.supply c.values-values.ensures.value in
    ap (λ (n : ℕ). Ok n) (c.write_fees.ensures.total ∙ ap (λ (vs : List ℕ). sum (map (fee rates) vs)) is)
    ∙ sym (ap (λ (x : Charge). x.answer) (charged rates c.args.docket.now c.args.choice c.args.row.now ok c.if-row-lt-BUYERS.false))

pub returns-clause-row : goal.returns-clause-row
returns-clause-row c =
    let rates = c.args.rates in
    let ok : rates_in_range rates ≡ true = search rules in
    let is = values_of c.args.docket.now c.args.choice c.supply_of.result c.values-values.result c.supply_of.ensures.supply c.values-values.ensures.value in
    c.write_fees.ensures.row
    ∙ ap (λ (vs : List ℕ). map (fee rates) vs ++ drop 16 c.args.row.now) is
    ∙ sym (ap (λ (x : Charge). x.row) (charged rates c.args.docket.now c.args.choice c.args.row.now ok c.if-row-lt-BUYERS.false))

pub returns-clause-fair : goal.returns-clause-fair
returns-clause-fair c =
    let rates = c.args.rates in
    let v = c.args.docket.now in
    let is = values_of v c.args.choice c.supply_of.result c.values-values.result c.supply_of.ensures.supply c.values-values.ensures.value in
    let written : c.write_fees.new.row ≡ fees rates v c.args.choice ++ drop 16 c.args.row.now =
    c.write_fees.ensures.row ∙ ap (λ (vs : List ℕ). map (fee rates) vs ++ drop 16 c.args.row.now) is in
    let total : c.write_fees.result ≡ sum (fees rates v c.args.choice) =
    c.write_fees.ensures.total ∙ ap (λ (vs : List ℕ). sum (map (fee rates) vs)) is in
    rw (written, total) (fair rates v c.args.choice (drop 16 c.args.row.now) c.supply_of.ensures.ranged)
