-- The filled sales are the sales to take: they are lawful where any are, and no sales bring more.
use Rattle.std.proofs.Common.{◌≡◌, ℕ, zero, suc, ◌+◌, ◌-◌, ◌*◌, ◌<◌, ◌≤◌, min, true, eqb, List, [], ◌∷◌, map, refl, sym, ap, ◌∙◌, ap₂, ⊎_elim, mul-le-mul_left, arith, cond}
use Rattle.std.specs.List.{AllByRecursion as Every, list_all}
use Rattle.std.proofs.lemmas.Bool.{and_parts, eqb-true, cases_lt}
use Rattle.std.proofs.lemmas.Bool.Decides.{nat_tests}
use Rattle.clearing.specs.declared.dockets.OpenBand.{OpenBand}
use Rattle.clearing.specs.Bands.{offered, comes_ahead, ahead_of, rising, aheads, true_aheads}
use Rattle.clearing.specs.Choices.{taken, supply}
use Rattle.clearing.specs.Filling.{PartsWithin, BestFilled}
use Rattle.clearing.specs.Lawful.{View, WithinQuantities, sold, market_income, income, percentage, Lawful, filled_sales}
use Rattle.clearing.specs.Ranges.{band_fits}
use Rattle.clearing.specs.Sales.{filled}
use Rattle.clearing.specs.Tallies.{row}
use Rattle.clearing.proofs.Fits.{OpenRanges, open_ranges}
use Rattle.clearing.proofs.FillingSums.{where_same, times_least, all_of, all_both, all_maps, total-same, total-map, row_getD, over, over-map, over_none, over-plus, sold_where, wanted, within-wanted}
use Rattle.clearing.specs.Ranged.{InOrder}
use Rattle.clearing.proofs.FillingOrder.{at_least, at_least-front, share, front-filled}

-- the fields of bands in range
pub ranges_of : (bs : List OpenBand) → list_all band_fits bs ≡ true → Every OpenRanges bs
ranges_of [] ok = tt
ranges_of (b ∷ bs) ok =
    let parts = and_parts (band_fits b) (list_all band_fits bs) ok in
    (open_ranges b parts.0, ranges_of bs parts.1)

-- what is sold in a market is what its bands of any price are sold
sold_all : (m : ℕ) (bs : List OpenBand) (ss : List ℕ) → sold bs ss m ≡ sold_where (at_least m 0) bs ss
sold_all m [] ss = omega arith
sold_all m (b ∷ bs) [] = omega arith
sold_all m (b ∷ bs) (s ∷ ss) =
    let here : cond (eqb b.terms.market m) s 0 ≡ cond (at_least m 0 b) s 0 = grind (arith, nat_tests) in
    omega (arith, here, sold_all m bs ss)

-- and no less than what those of at least a price are sold
sold_part : (m p : ℕ) (bs : List OpenBand) (ss : List ℕ) → sold_where (at_least m p) bs ss ≤ sold bs ss m
sold_part m p [] ss = omega arith
sold_part m p (b ∷ bs) [] = omega arith
sold_part m p (b ∷ bs) (s ∷ ss) =
    let here : cond (at_least m p b) s 0 ≤ cond (eqb b.terms.market m) s 0 = grind (arith, nat_tests) in
    omega (arith, here, sold_part m p bs ss)

-- what a band pays for a sale if it is of market m, at its price or at p if that is less
abbrev pub pay_cut : ℕ → ℕ → OpenBand → ℕ → ℕ
pay_cut m p b s = cond (eqb b.terms.market m) (s * min p b.terms.price) 0

-- no price is above the greatest, so with that cut the bands of a market pay its income
pub pay_whole : (m : ℕ) (bs : List OpenBand) (ss : List ℕ) → Every OpenRanges bs → market_income bs ss m ≡ over (pay_cut m 10000000) bs ss
pay_whole m [] ss ranges = refl
pay_whole m (b ∷ bs) [] ranges = refl
pay_whole m (b ∷ bs) (s ∷ ss) ranges =
    let whole : min 10000000 b.terms.price ≡ b.terms.price = omega (arith, ranges.0.of_record.price) in
    ap₂ (λ p n. cond (eqb b.terms.market m) (s * p) 0 + n) (sym whole) (pay_whole m bs ss ranges.1)

-- each filled sale is within the quantity
pub filled_small : (amounts : List ℕ) (bs : List OpenBand) → WithinQuantities bs (map (filled amounts) bs)
filled_small amounts [] = tt
filled_small amounts (b ∷ bs) = (omega arith, filled_small amounts bs)

-- sales within the quantities, as parts of which one makes a unit
pub parts_of_one : (bs : List OpenBand) (ss : List ℕ) → WithinQuantities bs ss → PartsWithin 1 bs ss
parts_of_one [] [] within = tt
parts_of_one [] (s ∷ ss) within = absurd within
parts_of_one (b ∷ bs) [] within = absurd within
parts_of_one (b ∷ bs) (s ∷ ss) within = (omega (arith, within.0), parts_of_one bs ss within.1)

-- with a price cut one higher, a band of at least that price pays one more for each unit
pub pay_more : (m p : ℕ) (b : OpenBand) (s : ℕ) → pay_cut m (suc p) b s ≡ pay_cut m p b s + cond (at_least m (suc p) b) s 0
pay_more m p b s =
    ⊎_elim
    (λ (h : p < b.terms.price).
    let upper : min (suc p) b.terms.price ≡ suc p = omega arith in
    let lower : min p b.terms.price ≡ p = omega arith in
    let more : s * suc p ≡ s * p + s = omega arith in
    rw (upper, lower, more) (grind (arith, nat_tests)))
    (λ (h : b.terms.price ≤ p).
    let upper : min (suc p) b.terms.price ≡ b.terms.price = omega arith in
    let lower : min p b.terms.price ≡ b.terms.price = omega arith in
    rw (upper, lower) (grind (arith, nat_tests)))
    (cases_lt p b.terms.price)

-- with all prices cut to nothing it pays nothing
pub pay_nothing : (m : ℕ) (b : OpenBand) (s : ℕ) → pay_cut m 0 b s ≡ 0
pay_nothing m b s =
    let nothing : min 0 b.terms.price ≡ 0 = omega arith in
    rw nothing (grind (arith, nat_tests))

-- sales in d-th parts come to no more of an amount than others in whole units
abbrev NoMore : ℕ → List OpenBand → List ℕ → List ℕ → (OpenBand → ℕ → ℕ) → Type 0
NoMore d bs ss rs f = over f bs ss ≤ d * over f bs rs

-- so it is of nothing
none_more : (d : ℕ) (bs : List OpenBand) (ss rs : List ℕ) (f : OpenBand → ℕ → ℕ) → Every (λ b. (s : ℕ) → f b s ≡ 0) bs → NoMore d bs ss rs f
none_more d bs ss rs f none = omega (arith, over_none f bs ss none)

-- and of two such amounts together
plus_more : (d : ℕ) (bs : List OpenBand) (ss rs : List ℕ) (f g h : OpenBand → ℕ → ℕ) → Every (λ b. (s : ℕ) → h b s ≡ f b s + g b s) bs
    → NoMore d bs ss rs f → NoMore d bs ss rs g → NoMore d bs ss rs h
plus_more d bs ss rs f g h both left right = rw (over-plus f g h bs ss both, over-plus f g h bs rs both) (omega arith)

-- what the bands are sold of an amount for each market
abbrev pub filled_of : (ℕ → ℕ) → List OpenBand → List ℕ
filled_of amount bs = map (filled (row amount 1 5)) bs

module _ (bs : List OpenBand) (amount : ℕ → ℕ) (rise : rising bs ≡ true) (ahead : aheads bs ≡ true_aheads bs) (ranges : Every OpenRanges bs) where
  -- a band is sold its share of the amount for its market
  filled-share : (m : ℕ) (b : OpenBand) → OpenRanges b → b.ahead ≡ ahead_of (map offered bs) (offered b) → b.terms.market ≡ m → filled (row amount 1 5) b ≡ share (amount m) bs b
  filled-share m b r is market =
      let first : 1 + (b.terms.market - 1) ≡ m = omega (arith, r.of_record.market_least) in
      let place = row_getD amount 1 5 (b.terms.market - 1) 0 (omega (arith, r.of_record.market)) in
      let before = total-map (λ a. cond (comes_ahead a (offered b)) a.terms.quantity 0) offered bs in
      ap₂ (λ n k. min (n - k) b.terms.quantity) (place ∙ ap amount first) (is ∙ before)

  -- the bands of a market with at least a price are sold all that they want, or the whole amount
  pub filled-front : (m p : ℕ) → sold_where (at_least m p) bs (filled_of amount bs) ≡ min (amount m) (wanted (at_least m p) bs)
  filled-front m p =
      let same = all_both _ _ _ (λ b r is. where_same (at_least m p b) _ _ (λ t. filled-share m b r is (eqb-true b.terms.market m (and_parts _ _ t).0))) bs ranges (all_maps _ _ bs ahead) in
      over-map (λ b s. cond (at_least m p b) s 0) (filled (row amount 1 5)) bs
      ∙ total-same _ _ bs same
      ∙ front-filled (at_least m p) (at_least-front m p) (amount m) 0 bs rise

  -- so are all bands of a market
  filled-market : (m : ℕ) → sold bs (filled_of amount bs) m ≡ min (amount m) (wanted (at_least m 0) bs)
  filled-market m = sold_all m bs (filled_of amount bs) ∙ filled-front m 0

  module _ (d : ℕ) (ss : List ℕ) (parts : PartsWithin d bs ss) (few : (m : ℕ) → sold bs ss m ≤ d * amount m) where
    -- no other sales sell more of what has at least a price
    front-most : (m p : ℕ) → NoMore d bs ss (filled_of amount bs) (λ b s. cond (at_least m p b) s 0)
    front-most m p =
        rw (filled-front m p)
        (times_least d _ (amount m) (wanted (at_least m p) bs) (omega (arith, sold_part m p bs ss, few m)) (within-wanted d (at_least m p) bs ss parts))

    -- nor more of a market
    pub market-most : (m : ℕ) → sold bs ss m ≤ d * sold bs (filled_of amount bs) m
    market-most m = rw (sold_all m bs ss, sold_all m bs (filled_of amount bs)) (front-most m 0)

    -- nor do they bring more of a market at cut prices, by the bands of at least each price
    cut_most : (m p : ℕ) → NoMore d bs ss (filled_of amount bs) (pay_cut m p)
    cut_most m zero = none_more d bs ss (filled_of amount bs) (pay_cut m 0) (all_of _ (pay_nothing m) bs)
    cut_most m (suc p) =
        plus_more d bs ss (filled_of amount bs) (pay_cut m p) (λ b s. cond (at_least m (suc p) b) s 0) (pay_cut m (suc p))
        (all_of _ (pay_more m p) bs) (cut_most m p) (front-most m (suc p))

    -- nor at whole prices
    market_income-most : (m : ℕ) → market_income bs ss m ≤ d * market_income bs (filled_of amount bs) m
    market_income-most m = rw (pay_whole m bs ss ranges, pay_whole m bs (filled_of amount bs) ranges) (cut_most m 10000000)

    -- nor of all markets together
    income-most : income bs ss ≤ d * income bs (filled_of amount bs)
    income-most = omega (arith, market_income-most 1, market_income-most 2, market_income-most 3, market_income-most 4, market_income-most 5)

-- what a choice supplies to a market
abbrev supplies : View → ℕ → ℕ → ℕ
supplies v choice m = supply m (taken v.packages choice)

-- the filled sales of a choice are within its supply
pub filled_within : (v : View) (choice m : ℕ) → InOrder v → list_all band_fits v.bands ≡ true → sold v.bands (filled_sales v choice) m ≤ supply m (taken v.packages choice)
filled_within v choice m order fit =
    omega (arith, filled-market v.bands (supplies v choice) order.numbers order.ahead (ranges_of v.bands fit) m)

-- no lawful sales sell more in a market
sold-most : (v : View) (choice : ℕ) → InOrder v → list_all band_fits v.bands ≡ true → (ss : List ℕ) → Lawful v choice ss
    → (m : ℕ) → sold v.bands ss m ≤ sold v.bands (filled_sales v choice) m
sold-most v choice order fit ss l m =
    let parts = parts_of_one v.bands ss l.within_quantities in
    omega (arith, market-most v.bands (supplies v choice) order.numbers order.ahead (ranges_of v.bands fit) 1 ss parts (λ m. omega (arith, l.within_supply m)) m)

-- the filled sales are lawful where any are, since they keep the percentages that smaller sales keep; and no sales bring more
pub best-filled : (v : View) (choice : ℕ) → InOrder v → list_all band_fits v.bands ≡ true → BestFilled v choice
best-filled v choice order fit = record {
  lawful = λ ss l.
      let more = λ (m percent : ℕ). mul-le-mul_left percent (sold-most v choice order fit ss l m) in
      record {
        within_quantities = filled_small (row (supplies v choice) 1 5) v.bands;
        within_supply = λ m. filled_within v choice m order fit;
        pairs = l.pairs;
        exclusions = l.exclusions;
        interconnection = l.interconnection;
        export = l.export;
        power_before = λ m low high. omega (arith, l.power_before m low high, more m (percentage v.limits 1));
        power_after = λ m low high. omega (arith, l.power_after m low high, more m (percentage v.limits 2));
        certificates_before = omega (arith, l.certificates_before, more 5 (percentage v.limits 3));
        certificates_after = omega (arith, l.certificates_after, more 5 (percentage v.limits 4));
      };
  most = λ d least ss parts few.
      income-most v.bands (supplies v choice) order.numbers order.ahead (ranges_of v.bands fit) d ss parts few;
}
