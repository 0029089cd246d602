-- `write_fees`: each fee is set at its place, and has no more centavos than its value has pesos.
use Rattle.std.proofs.Common.{ℕ, ◌+◌, List, set, ap₂, ◌∙◌, arith, rules}
use Rattle.fees.specs.Fees.{fee}
use Rattle.fees.proofs.Writing.{row_more, sum_more, total_fits}
use Rattle.fees.proofs.charges.write_fees.Goals as goal

pub overflow_add-total : goal.overflow_add-total
overflow_add-total c =
    let room = total_fits c.args.rates c.requires.rates c.args.values.now c.loop-place.place c.requires.bound c.loop-place-test.true (search rules) in
    omega (arith, room, c.loop-place.invariant.total, c.fee-fee.ensures)

pub loop-place-preserved : goal.loop-place-preserved
loop-place-preserved c =
    let f = fee c.args.rates in
    let values = c.args.values.now in
    let lent = c.args.row.now in
    let i = c.loop-place.place in
    record {
      row =
          ap₂ (λ (r : List ℕ) (n : ℕ). set r i n) c.loop-place.invariant.row c.fee-fee.ensures
          ∙ row_more f values i (search rules) lent (omega (arith, c.requires.room, c.loop-place-test.true));
      total =
          ap₂ (λ (m n : ℕ). m + n) c.loop-place.invariant.total c.fee-fee.ensures
          ∙ sum_more f values i (search rules);
    }
