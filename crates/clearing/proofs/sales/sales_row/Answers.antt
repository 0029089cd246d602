-- `sales_row`: a band's number is one of 64, and no number comes twice.
use Rattle.std.proofs.Common.{◌-◌, get_or, set, ap, ◌∙◌, ap₂}
use Rattle.clearing.specs.Bands.{rising}
use Rattle.clearing.proofs.Held.{no_band, band_ranged}
use Rattle.clearing.proofs.Served.{served_more}
use Rattle.clearing.proofs.sales.sales_row.Goals as goal

pub loop-band-preserved : goal.loop-band-preserved
loop-band-preserved c =
    let bs = c.as_slice-band-items.result.now in
    let i = c.loop-band.band-index in
    let held = c.as_slice-band-items.ensures.value in
    let inside = c.loop-band-test.true in
    let ranges = band_ranged c.docket.invariant i bs held inside in
    ap₂ (λ xs n. set xs ((get_or bs i no_band).number - 1) n) c.loop-band.invariant c.sale.ensures
    ∙ served_more c.args.supply.now bs i no_band inside (ap rising held ∙ c.docket.invariant.order.numbers) ranges.number_least
