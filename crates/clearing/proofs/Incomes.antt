-- The incomes of the markets: each band pays in one of them.
use Rattle.std.specs.List.{list_all}
use Rattle.std.proofs.Common.{◌≡◌, ℕ, ◌+◌, ◌*◌, ◌≤◌, true, eqb, List, [], ◌∷◌, ◌++◌, map, length, refl, ap, mul-le-mul, arith, cond}
use Rattle.std.proofs.lemmas.Bool.{and_parts}
use Rattle.std.proofs.lemmas.Bool.Decides.{nat_tests}
use Rattle.clearing.specs.declared.dockets.OpenBand.{OpenBand}
use Rattle.clearing.specs.Choices.{total, markets}
use Rattle.clearing.specs.Lawful.{WithinQuantities, sold, market_income, income}
use Rattle.clearing.specs.Ranges.{band_fits}
use Rattle.clearing.specs.Sales.{filled, income_in, filled_income}
use Rattle.clearing.proofs.Fits.{OpenRanges, open_ranges}
use Rattle.clearing.proofs.FillingSums.{all_of, total-same}
use Rattle.clearing.proofs.Totals.{total-append}

-- of all markets an amount counts in one
once : (m amount : ℕ) → 1 ≤ m → m ≤ 5 → total (λ k. cond (eqb m k) amount 0) markets ≡ amount
once m amount low high = grind (arith, nat_tests)

-- so a band more pays what it is sold at its price, whatever its market
pub income-next : (b : OpenBand) (bs : List OpenBand) (s : ℕ) (ss : List ℕ) → OpenRanges b → income (b ∷ bs) (s ∷ ss) ≡ s * b.terms.price + income bs ss
income-next b bs s ss r = omega (arith, once b.terms.market (s * b.terms.price) r.of_record.market_least r.of_record.market)

-- no band in range pays more than its greatest quantity at the greatest price
pub income-few : (bs : List OpenBand) (ss : List ℕ) → list_all band_fits bs ≡ true → WithinQuantities bs ss → income bs ss ≤ 1000000000000000 * length bs
income-few [] ss ok within = omega arith
income-few (b ∷ bs) [] ok within = omega arith
income-few (b ∷ bs) (s ∷ ss) ok within =
    let parts = and_parts (band_fits b) (list_all band_fits bs) ok in
    let r = open_ranges b parts.0 in
    let few : s ≤ 100000000 = omega (arith, within.0, r.of_record.quantity) in
    let here : s * b.terms.price ≤ 100000000 * 10000000 = mul-le-mul few r.of_record.price in
    omega (arith, here, income-next b bs s ss r, income-few bs ss parts.1 within.1)

-- a market in which nothing is sold has no income
market_income-none : (m : ℕ) (bs : List OpenBand) (ss : List ℕ) → sold bs ss m ≤ 0 → market_income bs ss m ≡ 0
market_income-none m [] ss none = refl
market_income-none m (b ∷ bs) [] none = refl
market_income-none m (b ∷ bs) (s ∷ ss) none =
    let here : cond (eqb b.terms.market m) (s * b.terms.price) 0 ≡ 0 = grind (arith, nat_tests) in
    omega (arith, here, market_income-none m bs ss (omega arith))

-- where nothing is sold, there is no income
pub income-none : (bs : List OpenBand) (ss : List ℕ) → ((m : ℕ) → sold bs ss m ≤ 0) → income bs ss ≡ 0
income-none bs ss none =
    let each = λ (m : ℕ). market_income-none m bs ss (none m) in
    omega (arith, each 1, each 2, each 3, each 4, each 5)

module _ (supply : List ℕ) where
  -- the income of a market by filled sales, with the sales in a list
  income_in-filled : (bs : List OpenBand) (m : ℕ) → income_in bs supply m ≡ market_income bs (map (filled supply) bs) m
  income_in-filled [] m = refl
  income_in-filled (b ∷ bs) m =
      ap (λ n. cond (eqb b.terms.market m) (filled supply b * b.terms.price) 0 + n) (income_in-filled bs m)

  -- and of all markets
  pub income-filled : (bs : List OpenBand) → filled_income bs supply ≡ income bs (map (filled supply) bs)
  income-filled bs = total-same (income_in bs supply) (market_income bs (map (filled supply) bs)) markets (all_of _ (income_in-filled bs) markets)

  -- a band more at the end pays what it is sold at its price
  pub income-last : (bs : List OpenBand) (b : OpenBand) → OpenRanges b
      → filled_income (bs ++ b ∷ []) supply ≡ filled_income bs supply + filled supply b * b.terms.price
  income-last bs b r =
      let each = λ (m : ℕ). total-append (λ b. cond (eqb b.terms.market m) (filled supply b * b.terms.price) 0) bs (b ∷ []) in
      omega (arith, once b.terms.market (filled supply b * b.terms.price) r.of_record.market_least r.of_record.market, each 1, each 2, each 3, each 4, each 5)
