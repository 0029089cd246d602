-- `values`: each band adds what it is sold, at its price, to its buyer.
use Rattle.std.proofs.Common.{arith}
use Rattle.fees.proofs.Values.{turn, ended}
use Rattle.fees.proofs.charges.values.Goals as goal

pub overflow_mul-paid : goal.overflow_mul-paid
overflow_mul-paid c =
    let this = turn c.docket.invariant c.docket.view_is c.args.supply.now c.as_slice-band-items.ensures.value c.loop-band-test.true c.loop-band.invariant c.sales_row-sold.ensures in
    omega (arith, this.paid)

pub overflow_add-values : goal.overflow_add-values
overflow_add-values c =
    let this = turn c.docket.invariant c.docket.view_is c.args.supply.now c.as_slice-band-items.ensures.value c.loop-band-test.true c.loop-band.invariant c.sales_row-sold.ensures in
    omega (arith, this.sum)

pub loop-band-preserved : goal.loop-band-preserved
loop-band-preserved c =
    let this = turn c.docket.invariant c.docket.view_is c.args.supply.now c.as_slice-band-items.ensures.value c.loop-band-test.true c.loop-band.invariant c.sales_row-sold.ensures in
    this.next

pub returns-clause-value : goal.returns-clause-value
returns-clause-value c =
    let last = ended c.docket.invariant c.docket.view_is c.args.supply.now c.as_slice-band-items.ensures.value c.loop-band-test.false c.loop-band.invariant in
    last.value

pub returns-clause-bound : goal.returns-clause-bound
returns-clause-bound c =
    let last = ended c.docket.invariant c.docket.view_is c.args.supply.now c.as_slice-band-items.ensures.value c.loop-band-test.false c.loop-band.invariant in
    last.bound
