-- Why tangents are sound, whatever the multipliers: a choice sells beyond the first what its free packages supply, each band pays for a
-- unit no more than its worth and what it pays above that, and no lawful choice takes a free package that is not live.
use Rattle.std.specs.Prelude.{◌≡◌, ℕ, zero, suc, ◌+◌, ◌-◌, ◌*◌, ◌/◌, ◌%◌, ◌≤◌, Bool, true, false, cond, ◌&&◌, eqb, leb, List, [], ◌∷◌, ◌++◌, map, pos, ◌+ℤ◌, ◌≤ℤ◌, Some, ◌==◌, refl}
use Rattle.std.proofs.Common.{sym, ap, ◌∙◌, ap₂, mul-le-mul_left, arith}
use Rattle.std.specs.List.{AllByRecursion as Every, filter, list_all}
use Rattle.std.proofs.ByRecursion.{All-weaker}
use Rattle.std.proofs.lemmas.Int.{ints, clamps}
use Rattle.std.proofs.lemmas.Bool.{true≢false}
use Rattle.std.proofs.lemmas.Bool.Decides.{nat_tests}
use Rattle.clearing.specs.declared.dockets.PricedPackage.{PricedPackage}
use Rattle.clearing.specs.declared.dockets.OpenBand.{OpenBand}
use Rattle.clearing.specs.Bands.{rising, aheads, true_aheads}
use Rattle.clearing.specs.Choices.{taken, total, supplied, supply, cost}
use Rattle.clearing.specs.Lawful.{View, income}
use Rattle.clearing.specs.Sales.{filled}
use Rattle.clearing.specs.Tallies.{row}
use Rattle.clearing.proofs.Fits.{OpenRanges}
use Rattle.clearing.proofs.Filling.{ranges_of, filled_of, filled-front}
use Rattle.clearing.proofs.FillingSums.{over-map, row_getD}
use Rattle.clearing.proofs.FillingOrder.{at_least}
use Rattle.clearing.proofs.Incomes.{income-next}
use Rattle.clearing.specs.Ranged.{Ranged}
use Rattle.clearing.proofs.Ranged.{filled-most}
use Rattle.clearing.proofs.Totals.{total-append}
use Rattle.bounds.specs.Blocks.{Span, InDocket, Claims, fixed, possible, free_ones}
use Rattle.bounds.specs.Multipliers.{Multipliers, unit_worth, value_at, multipliers}
use Rattle.bounds.specs.Rules.{joins, live_ones, sold_above, gains_above, tangent_by, tangent}
use Rattle.bounds.specs.Laws.Splits.{taken-kept, each-next, choice-splits, taken-live}

-- one amount at a market's place is worth that many of its units
value_one : (l : Multipliers) (market price amount : ℕ) → 1 ≤ market → market ≤ 5
    → value_at l (λ m. cond (eqb market m && leb 0 price) amount 0) ≡ amount * unit_worth l market
value_one l zero price amount low high = absurd (omega arith)
value_one l (suc zero) price amount low high = grind (arith, nat_tests)
value_one l (suc (suc zero)) price amount low high = grind (arith, nat_tests)
value_one l (suc (suc (suc zero))) price amount low high = grind (arith, nat_tests)
value_one l (suc (suc (suc (suc zero)))) price amount low high = grind (arith, nat_tests)
value_one l (suc (suc (suc (suc (suc zero))))) price amount low high = grind (arith, nat_tests)
value_one l (suc (suc (suc (suc (suc (suc n)))))) price amount low high = absurd (omega arith)

-- two amounts of each market are worth what each is
value_plus : (l : Multipliers) (f g h : ℕ → ℕ) → ((m : ℕ) → h m ≡ f m + g m) → value_at l h ≡ value_at l f + value_at l g
value_plus l f g h both = rw (both 1, both 2, both 3, both 4, both 5) (omega arith)

-- what more of a band's units are sold brings no more than their worth and what is paid above that, also where more are counted yet
paid-more : (t a c price unit above : ℕ) → price ≤ unit + above → (t + a) * price + t * unit ≤ t * price + (a + c) * above + (t + a) * unit
paid-more t a c price unit above high = omega (arith, mul-le-mul_left a high)

-- so from one sale to a greater one, up to the most
paid_above : (t s u price unit : ℕ) → t ≤ s → s ≤ u → s * price + t * unit ≤ t * price + (u - t) * (price - unit) + s * unit
paid_above t s u price unit more most =
    let sold : t + (s - t) ≡ s = omega arith in
    let yet : s - t + (u - s) ≡ u - t = omega arith in
    rw (sold, yet) at (paid-more t (s - t) (u - s) price unit (price - unit) (omega arith))

-- A band is sold more of a second supply than of a first, and more yet of a third.
record Rises (one two three : List ℕ) (b : OpenBand) : Type 0 where
  ranges : OpenRanges b
  more : filled one b ≤ filled two b
  most : filled two b ≤ filled three b

module _ (l : Multipliers) (one other most : List ℕ) where
  -- so it is of all bands that are sold more, and most yet
  bands-above : (bs : List OpenBand) → Every (Rises one other most) bs
      → income bs (map (filled other) bs) + total (λ b. filled one b * unit_worth l b.terms.market) bs
      ≤ income bs (map (filled one) bs) + sold_above l bs one most + total (λ b. filled other b * unit_worth l b.terms.market) bs
  bands-above [] more = omega arith
  bands-above (b ∷ bs) more =
      omega (
        arith,
        income-next b bs (filled one b) (map (filled one) bs) more.0.ranges,
        income-next b bs (filled other b) (map (filled other) bs) more.0.ranges,
        paid_above (filled one b) (filled other b) (filled most b) b.terms.price (unit_worth l b.terms.market) more.0.more more.0.most,
        bands-above bs more.1,
      )

-- what is sold of amounts, band by band, is worth what it is market by market
value_sold : (l : Multipliers) (sale : OpenBand → ℕ) (bs : List OpenBand) → Every OpenRanges bs
    → value_at l (λ m. total (λ b. cond (at_least m 0 b) (sale b) 0) bs) ≡ total (λ b. sale b * unit_worth l b.terms.market) bs
value_sold l sale [] ranges = omega arith
value_sold l sale (b ∷ bs) ranges =
    let r = ranges.0.of_record in
    value_plus l (λ m. cond (at_least m 0 b) (sale b) 0) (λ m. total (λ b. cond (at_least m 0 b) (sale b) 0) bs) _ (λ m. refl)
    ∙ ap₂ (λ n k. n + k) (value_one l b.terms.market b.terms.price (sale b) r.market_least r.market) (value_sold l sale bs ranges.1)

-- amounts that are together no more than others of each market are worth no more
value_less : (l : Multipliers) (f g h k : ℕ → ℕ) → ((m : ℕ) → f m + g m ≤ h m + k m) → value_at l f + value_at l g ≤ value_at l h + value_at l k
value_less l f g h k less =
    let at = λ (m : ℕ). mul-le-mul_left (unit_worth l m) (less m) in
    omega (arith, at 1, at 2, at 3, at 4, at 5)

-- a band is sold no less of a greater supply
filled_more : (b : OpenBand) → OpenRanges b → (t s : ℕ → ℕ) → ((m : ℕ) → t m ≤ s m) → filled (row t 1 5) b ≤ filled (row s 1 5) b
filled_more b r t s less =
    let here = λ (amount : ℕ → ℕ). row_getD amount 1 5 (b.terms.market - 1) 0 (omega (arith, r.of_record.market)) in
    omega (arith, here t, here s, less (1 + (b.terms.market - 1)))

module _ (l : Multipliers) (bs : List OpenBand) (rise : rising bs ≡ true) (ahead : aheads bs ≡ true_aheads bs) (ranges : Every OpenRanges bs)
    (t s u : ℕ → ℕ) (more : (m : ℕ) → t m ≤ s m) (most : (m : ℕ) → s m ≤ u m) where
  -- what is sold of amounts in a market
  abbrev sold_of : (ℕ → ℕ) → ℕ → ℕ
  sold_of amount m = total (λ b. cond (at_least m 0 b) (filled (row amount 1 5) b) 0) bs

  -- no more is sold beyond the smaller amounts than there is beyond them
  sold-beyond : (m : ℕ) → sold_of s m + t m ≤ sold_of t m + s m
  sold-beyond m =
      let all = λ (amount : ℕ → ℕ). sym (over-map (λ b n. cond (at_least m 0 b) n 0) (filled (row amount 1 5)) bs) ∙ filled-front bs amount rise ahead ranges m 0 in
      omega (arith, all s, all t, more m)

  -- so it brings no more than it is worth and what is paid above that
  income-above : income bs (filled_of s bs) + value_at l t ≤ income bs (filled_of t bs) + sold_above l bs (row t 1 5) (row u 1 5) + value_at l s
  income-above =
      let parts : Every (Rises (row t 1 5) (row s 1 5) (row u 1 5)) bs =
      All-weaker _ _ (λ b r. record { ranges = r; more = filled_more b r t s more; most = filled_more b r s u most }) bs ranges in
      let sold = λ (amount : ℕ → ℕ). value_sold l (filled (row amount 1 5)) bs ranges in
      omega (arith, bands-above l (row t 1 5) (row s 1 5) (row u 1 5) bs parts, sold s, sold t, value_less l (sold_of s) t (sold_of t) s sold-beyond)

-- the prices of two lists together are those of both
cost-append : (xs ys : List PricedPackage) → cost (xs ++ ys) ≡ cost xs +ℤ cost ys
cost-append [] ys = omega (arith, ints)
cost-append (x ∷ xs) ys = omega (arith, ints, cost-append xs ys)

module _ (l : Multipliers) (test : PricedPackage → Bool) where
  -- one package more gains no more than what is above 0 of its gain, and is counted where it is taken
  gain-next : (one keep : Bool) (p : PricedPackage) (xs ys : List PricedPackage) → (one ≡ true → keep ≡ true)
      → pos (value_at l (λ m. supply m xs)) ≤ℤ (cost xs +ℤ gains_above l ys)
      → pos (value_at l (λ m. supply m (cond one (p ∷ xs) xs))) ≤ℤ (cost (cond one (p ∷ xs) xs) +ℤ gains_above l (cond keep (p ∷ ys) ys))
  gain-next true true p xs ys so rest =
      omega (arith, ints, clamps, rest, value_plus l (λ m. supplied m p.terms) (λ m. supply m xs) (λ m. supply m (p ∷ xs)) (λ m. refl))
  gain-next true false p xs ys so rest = absurd (true≢false (sym (so refl)))
  gain-next false true p xs ys so rest = omega (arith, ints, clamps, rest)
  gain-next false false p xs ys so rest = rest

  -- what is taken, if all of it passes, is worth no more than it costs and what all that pass gain above 0
  gains-most : (ps : List PricedPackage) (r : ℕ) → list_all test (taken ps r) ≡ true
      → pos (value_at l (λ m. supply m (taken ps r))) ≤ℤ (cost (taken ps r) +ℤ gains_above l (filter test ps))
  gains-most [] r ok = omega (arith, ints)
  gains-most (p ∷ ps) r ok =
      let parts = each-next test (r % 2 == 1) p (taken ps (r / 2)) ok in
      gain-next (r % 2 == 1) (test p) p (taken ps (r / 2)) (filter test ps) parts.0 (gains-most ps (r / 2) parts.1)

module _ (l : Multipliers) (v : View) (ranged : Ranged v) (b : Span) (block : InDocket v b) where
  -- a cap of the block
  pub tangent_by-sound : Claims v b (Some (tangent_by l (live_ones v b) v b))
  tangent_by-sound choice sales inside lawful =
      let free = taken (free_ones v b) (choice - b.first) in
      let live = taken-live v b block ranged choice sales inside lawful in
      let splits = choice-splits v b block choice inside in
      let part = taken-kept (joins v (fixed v b) (possible v b)) (free_ones v b) (choice - b.first) live in
      let supplies = λ (m : ℕ). ap (supply m) splits ∙ total-append (λ p. supplied m p.terms) free (fixed v b) in
      let income =
      income-above l v.bands ranged.order.numbers ranged.order.ahead (ranges_of v.bands ranged.bands)
      (λ m. supply m (fixed v b)) (λ m. supply m (taken v.packages choice)) (λ m. supply m (fixed v b) + supply m (live_ones v b))
      (λ m. omega (arith, supplies m)) (λ m. omega (arith, supplies m, part.less (λ p. supplied m p.terms))) in
      let worths = value_plus l (λ m. supply m free) (λ m. supply m (fixed v b)) (λ m. supply m (taken v.packages choice)) supplies in
      let costs = ap cost splits ∙ cost-append free (fixed v b) in
      let gains = gains-most l (joins v (fixed v b) (possible v b)) (free_ones v b) (choice - b.first) live in
      omega (arith, ints, filled-most v ranged choice sales lawful, income, worths, costs, gains)

-- so with those of the block
pub tangent-sound : (v : View) → Ranged v → (b : Span) → InDocket v b → Claims v b (tangent v b)
tangent-sound v ranged b block = tangent_by-sound (multipliers v.bands (fixed v b) (live_ones v b)) v ranged b block
