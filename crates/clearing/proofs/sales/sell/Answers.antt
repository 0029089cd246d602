-- `sell`: each band adds what it is sold to its market and to the income.
use Rattle.std.proofs.Common.{arith}
use Rattle.clearing.proofs.Sellings.{turn}
use Rattle.clearing.proofs.sales.sell.Goals as goal

pub overflow_add-sales : goal.overflow_add-sales
overflow_add-sales c =
    let this = turn c.docket.invariant c.args.supply.now c.as_slice-band-items.result.now c.loop-band.band-index c.loop-band.sales c.sale-sold.result c.as_slice-band-items.ensures.value c.loop-band-test.true c.loop-band.invariant c.sale-sold.ensures in
    omega arith

pub overflow_add-sales-in-loop-band : goal.overflow_add-sales-in-loop-band
overflow_add-sales-in-loop-band c =
    let this = turn c.docket.invariant c.args.supply.now c.as_slice-band-items.result.now c.loop-band.band-index c.loop-band.sales c.sale-sold.result c.as_slice-band-items.ensures.value c.loop-band-test.true c.loop-band.invariant c.sale-sold.ensures in
    omega arith

pub loop-band-preserved : goal.loop-band-preserved
loop-band-preserved c =
    let this = turn c.docket.invariant c.args.supply.now c.as_slice-band-items.result.now c.loop-band.band-index c.loop-band.sales c.sale-sold.result c.as_slice-band-items.ensures.value c.loop-band-test.true c.loop-band.invariant c.sale-sold.ensures in
    this.next
