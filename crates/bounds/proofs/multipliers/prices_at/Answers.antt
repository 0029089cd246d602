-- `prices_at`: with a band more the price of its market is the greater of that so far and the band's, if the amount does not fill it.
use Rattle.std.proofs.Common.{◌≡◌, ℕ, ◌+◌, ◌-◌, ◌<◌, ◌≤◌, max, ◌&&◌, eqb, ltb, List, [], ◌∷◌, ◌++◌, length, get_or, set, take, sym, refl, ap, ◌∙◌, ap₂, subst, arith, cond}
use Rattle.std.proofs.lemmas.List.{take_more}
use Rattle.std.proofs.lemmas.Bool.{and_parts, cond_both, eqb-true, ltb-true}
use Rattle.std.proofs.lemmas.Bool.Decides.{nat_tests}
use Rattle.clearing.specs.declared.dockets.OpenBand.{OpenBand}
use Rattle.clearing.specs.Tallies.{row}
use Rattle.clearing.proofs.Held.{no_band, band_ranged}
use Rattle.clearing.proofs.Rows.{getD_row, row_same, row-set}
use Rattle.bounds.specs.Multipliers.{price_at}
use Rattle.bounds.proofs.multipliers.prices_at.Goals as goal
use Rattle.bounds.proofs.multipliers.prices_at.Goals.{then-amounts-market, else-amounts-market}

-- what one band pays, if the amount does not fill it
abbrev pays : ℕ → ℕ → OpenBand → ℕ
pays m amount b = cond (eqb b.terms.market m && ltb amount (b.ahead + b.terms.quantity)) b.terms.price 0

-- with one band more at the end
price-last : (m amount : ℕ) (bs : List OpenBand) (b : OpenBand) → price_at (bs ++ b ∷ []) m amount ≡ max (price_at bs m amount) (pays m amount b)
price-last m amount [] b = omega arith
price-last m amount (c ∷ cs) b = omega (arith, price-last m amount cs b)

-- a band of the market that is not filled pays its price
pays-it : (m amount : ℕ) (b : OpenBand) → b.terms.market ≡ m → amount < b.ahead + b.terms.quantity → pays m amount b ≡ b.terms.price
pays-it m amount b is more = grind (arith, nat_tests)

-- one that its market's amount fills pays nothing in any
pays-filled : (amounts : List ℕ) (m : ℕ) (b : OpenBand) → b.ahead + b.terms.quantity ≤ get_or amounts (b.terms.market - 1) 0 → pays m (get_or amounts (m - 1) 0) b ≡ 0
pays-filled amounts m b filled =
    let amount = get_or amounts (m - 1) 0 in
    cond_both (eqb b.terms.market m && ltb amount (b.ahead + b.terms.quantity)) b.terms.price 0 (λ n. n ≡ 0)
    (λ both.
    let parts = and_parts (eqb b.terms.market m) (ltb amount (b.ahead + b.terms.quantity)) both in
    absurd (omega (arith, filled, ap (λ n. get_or amounts (n - 1) 0) (eqb-true b.terms.market m parts.0), ltb-true amount (b.ahead + b.terms.quantity) parts.1)))
    (λ _. refl)

-- nor does one of another market
pays-elsewhere : (m amount : ℕ) (b : OpenBand) → (b.terms.market ≡ m → ⊥) → pays m amount b ≡ 0
pays-elsewhere m amount b not = grind (arith, nat_tests)

module _ (amounts : List ℕ) (bs : List OpenBand) (i : ℕ) (inside : i < length bs) where
  -- the next band
  abbrev next : OpenBand
  next = get_or bs i no_band

  -- the price of a market by the bands so far, and by those with the next one
  abbrev so_far : ℕ → ℕ
  so_far m = price_at (take i bs) m (get_or amounts (m - 1) 0)

  abbrev with_next : ℕ → ℕ
  with_next m = price_at (take (i + 1) bs) m (get_or amounts (m - 1) 0)

  -- with it
  price_more : (m : ℕ) → with_next m ≡ max (so_far m) (pays m (get_or amounts (m - 1) 0) next)
  price_more m =
      ap (λ cs. price_at cs m (get_or amounts (m - 1) 0)) (take_more bs i no_band inside) ∙ price-last m (get_or amounts (m - 1) 0) (take i bs) next

  -- where its market's amount does not fill it, the price at its market's place is the greater of the two
  price-there : 1 ≤ next.terms.market → next.terms.market ≤ 5 → get_or amounts (next.terms.market - 1) 0 < next.ahead + next.terms.quantity
      → set (row so_far 1 5) (next.terms.market - 1) (max (get_or (row so_far 1 5) (next.terms.market - 1) 0) next.terms.price) ≡ row with_next 1 5
  price-there low high more =
      let place = next.terms.market - 1 in
      let market : 1 + place ≡ next.terms.market = omega arith in
      let old : get_or (row so_far 1 5) place 0 ≡ so_far (1 + place) = getD_row so_far 1 5 place 0 (omega arith) in
      let here : get_or amounts (1 + place - 1) 0 < next.ahead + next.terms.quantity = subst (λ (m : ℕ). get_or amounts (m - 1) 0 < next.ahead + next.terms.quantity) (sym market) more in
      sym (row-set so_far with_next _ 1 5 place
      (price_more (1 + place) ∙ ap₂ max (sym old) (pays-it (1 + place) (get_or amounts (1 + place - 1) 0) next (sym market) here))
      (λ m ne. omega (arith, price_more m, pays-elsewhere m (get_or amounts (m - 1) 0) next (λ e. ne (sym e ∙ sym market)))))

  -- where it does, no price changes
  price-same : next.ahead + next.terms.quantity ≤ get_or amounts (next.terms.market - 1) 0 → row so_far 1 5 ≡ row with_next 1 5
  price-same filled = row_same so_far with_next 1 5 (λ m h. omega (arith, price_more m, pays-filled amounts m next filled))

pub loop-band-preserved : goal.loop-band-preserved
loop-band-preserved c =
    let amounts = c.args.amounts.now in
    let bs = c.as_slice-band-items.result.now in
    let i = c.loop-band.band-index in
    let inside = c.loop-band-test.true in
    let b = get_or bs i no_band in
    let r = band_ranged c.docket.invariant i bs c.as_slice-band-items.ensures.value inside in
    elim c.if-amounts-market.branch [
      | then-amounts-market w ↦
          w.prices-is
          ∙ ap (set c.loop-band.prices (b.terms.market - 1)) w.max.ensures
          ∙ ap (λ xs. set xs (b.terms.market - 1) (max (get_or xs (b.terms.market - 1) 0) b.terms.price)) c.loop-band.invariant
          ∙ price-there amounts bs i inside r.of_record.market_least r.of_record.market w.if-amounts-market.true
      | else-amounts-market w ↦ w.prices-is ∙ c.loop-band.invariant ∙ price-same amounts bs i inside w.if-amounts-market.false
    ]
