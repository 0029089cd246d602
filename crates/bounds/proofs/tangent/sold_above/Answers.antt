-- `sold_above`: at most the greatest quantity is counted of each band, at the greatest price at most.
use Rattle.std.proofs.Common.{◌≡◌, ℕ, ◌+◌, ◌-◌, ◌*◌, ◌<◌, ◌≤◌, List, [], ◌∷◌, length, get_or, map, take, sym, ap, ◌∙◌, ap₂, mul-le-mul, arith}
use Rattle.std.proofs.lemmas.List.{get_or-map, take_more}
use Rattle.clearing.specs.declared.dockets.OpenBand.{OpenBand}
use Rattle.clearing.specs.Choices.{total}
use Rattle.clearing.specs.Sales.{filled}
use Rattle.clearing.proofs.Fits.{OpenRanges}
use Rattle.clearing.proofs.Held.{no_band, band_ranged}
use Rattle.clearing.proofs.Totals.{total-append}
use Rattle.bounds.specs.Multipliers.{Multipliers, unit_worth}
use Rattle.bounds.specs.Rules.{sold_above}
use Rattle.bounds.proofs.tangent.sold_above.Goals as goal

-- what one band counts
abbrev counted : Multipliers → List ℕ → List ℕ → OpenBand → ℕ
counted l less more b = (filled more b - filled less b) * (b.terms.price - unit_worth l b.terms.market)

-- with one band more
sold_more : (l : Multipliers) (less more : List ℕ) (bs : List OpenBand) (i : ℕ) (d : OpenBand) → i < length bs
    → sold_above l (take (i + 1) bs) less more ≡ sold_above l (take i bs) less more + counted l less more (get_or bs i d)
sold_more l less more bs i d inside =
    omega (arith, ap (total (counted l less more)) (take_more bs i d inside), total-append (counted l less more) (take i bs) (get_or bs i d ∷ []))

-- one band counts no more than the greatest quantity at the greatest price
counted-most : (l : Multipliers) (less more : List ℕ) (b : OpenBand) → OpenRanges b → counted l less more b ≤ 1000000000000000
counted-most l less more b r =
    let quantity : filled more b - filled less b ≤ 100000000 = omega (arith, r.of_record.quantity) in
    let price : b.terms.price - unit_worth l b.terms.market ≤ 10000000 = omega (arith, r.of_record.price) in
    mul-le-mul quantity price

-- what the band at a place of a docket is sold, read where the bands are walked over
served-at : (supply : List ℕ) (all bs : List OpenBand) (i sold : ℕ) → bs ≡ all → i < length bs → sold ≡ get_or (map (filled supply) all) i 0
    → sold ≡ filled supply (get_or bs i no_band)
served-at supply all bs i sold held inside is =
    is ∙ ap (λ cs. get_or (map (filled supply) cs) i 0) (sym held) ∙ get_or-map (filled supply) bs i no_band 0 inside

-- so what it counts
counted-at : (l : Multipliers) (less more : List ℕ) (all bs : List OpenBand) (i one other sold above : ℕ) → bs ≡ all → i < length bs
    → other ≡ get_or (map (filled more) all) i 0 → one ≡ get_or (map (filled less) all) i 0
    → sold ≡ other - one → above ≡ (get_or bs i no_band).terms.price - unit_worth l (get_or bs i no_band).terms.market
    → sold * above ≡ counted l less more (get_or bs i no_band)
counted-at l less more all bs i one other sold above held inside most least so paid =
    ap₂ (λ n k. n * k) (so ∙ ap₂ (λ n k. n - k) (served-at more all bs i other held inside most) (served-at less all bs i one held inside least)) paid

pub overflow_mul-above : goal.overflow_mul-above
overflow_mul-above c =
    let bs = c.as_slice-band-items.result.now in
    let i = c.loop-place.place in
    let r = band_ranged c.docket.invariant i bs c.as_slice-band-items.ensures.value c.loop-place-test.true in
    let is = counted-at c.args.multipliers.now c.args.less.now c.args.more.now c.args.docket.now.bands bs i c.sale_at-in-loop-place.result c.sale_at.result c.saturating_sub-sold.result c.saturating_sub.result (c.as_slice-band-items.ensures.value ∙ ap (λ v. v.bands) c.docket.view_is) c.loop-place-test.true c.sale_at.ensures c.sale_at-in-loop-place.ensures c.saturating_sub-sold.ensures c.saturating_sub.ensures in
    omega (arith, is, counted-most c.args.multipliers.now c.args.less.now c.args.more.now (get_or bs i no_band) r)

pub overflow_add-above : goal.overflow_add-above
overflow_add-above c =
    let d = c.args.docket.now in
    let bs = c.as_slice-band-items.result.now in
    let i = c.loop-place.place in
    let r = band_ranged c.docket.invariant i bs c.as_slice-band-items.ensures.value c.loop-place-test.true in
    let is = counted-at c.args.multipliers.now c.args.less.now c.args.more.now c.args.docket.now.bands bs i c.sale_at-in-loop-place.result c.sale_at.result c.saturating_sub-sold.result c.saturating_sub.result (c.as_slice-band-items.ensures.value ∙ ap (λ v. v.bands) c.docket.view_is) c.loop-place-test.true c.sale_at.ensures c.sale_at-in-loop-place.ensures c.saturating_sub-sold.ensures c.saturating_sub.ensures in
    omega (arith, is, counted-most c.args.multipliers.now c.args.less.now c.args.more.now (get_or bs i no_band) r, ap length c.as_slice-band-items.ensures.value, c.docket.invariant.few_bands)

pub loop-place-preserved : goal.loop-place-preserved
loop-place-preserved c =
    let l = c.args.multipliers.now in
    let bs = c.as_slice-band-items.result.now in
    let i = c.loop-place.place in
    let r = band_ranged c.docket.invariant i bs c.as_slice-band-items.ensures.value c.loop-place-test.true in
    let is = counted-at c.args.multipliers.now c.args.less.now c.args.more.now c.args.docket.now.bands bs i c.sale_at-in-loop-place.result c.sale_at.result c.saturating_sub-sold.result c.saturating_sub.result (c.as_slice-band-items.ensures.value ∙ ap (λ v. v.bands) c.docket.view_is) c.loop-place-test.true c.sale_at.ensures c.sale_at-in-loop-place.ensures c.saturating_sub-sold.ensures c.saturating_sub.ensures in (
      omega (arith, is, sold_more l c.args.less.now c.args.more.now bs i no_band c.loop-place-test.true),
      omega (arith, is, counted-most l c.args.less.now c.args.more.now (get_or bs i no_band) r),
    )
