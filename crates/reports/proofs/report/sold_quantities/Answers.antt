-- `sold_quantities`: a band's number is one of 64.
use Rattle.std.proofs.Common.{sym, refl, subst, arith, rules}
use Rattle.std.proofs.lemmas.Iterator.{YieldsList-from_slice}
use Rattle.std.proofs.lemmas.Iterator.Adapters.{serves_from_places}
use Rattle.std.proofs.lemmas.List.{get_or_read}
use Rattle.clearing.proofs.Fits.{OpenRanges}
use Rattle.clearing.proofs.Held.{no_band, band_ranged}
use Rattle.reports.proofs.report.sold_quantities.Goals as goal

pub collect-requires-clause-can : goal.collect-requires-clause-can
collect-requires-clause-can c =
    let bands = c.docket.inside.bands in (
      tt,
      serves_from_places (YieldsList-from_slice bands cc) (λ x q k. search rules)
          (λ x i inside is.
          let ranges = subst OpenRanges (sym (get_or_read bands i x.now inside is no_band)) (band_ranged c.docket.invariant i bands refl inside) in
          (λ _ _ _ _ _ _. omega arith, λ _ _ _ _ _ _. omega arith, λ _ _ _ _ _ _ _. omega arith)),
    )
