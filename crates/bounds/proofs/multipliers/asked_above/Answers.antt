-- `asked_above`: each band that pays above its market's multiplier asks for its quantity at its market's place, and for no more than there is room.
use Rattle.std.specs.List.{list_all}
use Rattle.std.proofs.Common.{◌≡◌, ℕ, ◌+◌, ◌-◌, ◌<◌, ◌≤◌, true, ◌&&◌, eqb, leb, ltb, List, [], ◌∷◌, length, get_or, set, take, sym, refl, ap, ◌∙◌, subst, arith, cond}
use Rattle.std.proofs.lemmas.List.{length-take, take_more}
use Rattle.std.proofs.lemmas.Bool.{and_parts, cond_both, eqb-true, ltb-true}
use Rattle.std.proofs.lemmas.Bool.Decides.{nat_tests}
use Rattle.clearing.specs.declared.dockets.OpenBand.{OpenBand}
use Rattle.clearing.specs.Choices.{total}
use Rattle.clearing.specs.Lawful.{View}
use Rattle.clearing.specs.Ranged.{Ranged}
use Rattle.clearing.specs.Ranges.{band_fits}
use Rattle.clearing.specs.Tallies.{row}
use Rattle.clearing.proofs.Fits.{each_take, each-most, open_ranges}
use Rattle.clearing.proofs.Held.{no_band, band_ranged}
use Rattle.clearing.proofs.Rows.{getD_row, row_same, row-set, where_most}
use Rattle.clearing.proofs.Totals.{total-append, totals_most}
use Rattle.bounds.specs.Multipliers.{Multipliers, unit_worth, asked_above}
use Rattle.bounds.proofs.multipliers.asked_above.Goals as goal
use Rattle.bounds.proofs.multipliers.asked_above.Goals.{then-multipliers-market, else-multipliers-market}

-- what one band counts
abbrev counted : Multipliers → ℕ → OpenBand → ℕ
counted l m b = cond (eqb b.terms.market m && ltb (unit_worth l m) b.terms.price) b.terms.quantity 0

-- a band of the market that pays above the worth counts its quantity
counts : (l : Multipliers) (m : ℕ) (b : OpenBand) → b.terms.market ≡ m → unit_worth l m < b.terms.price → counted l m b ≡ b.terms.quantity
counts l m b is above = grind (arith, nat_tests)

-- one that pays no more than its market's, nothing in any
counts-below : (l : Multipliers) (m : ℕ) (b : OpenBand) → b.terms.price ≤ unit_worth l b.terms.market → counted l m b ≡ 0
counts-below l m b below =
    cond_both (eqb b.terms.market m && ltb (unit_worth l m) b.terms.price) b.terms.quantity 0 (λ n. n ≡ 0)
    (λ both.
    let parts = and_parts (eqb b.terms.market m) (ltb (unit_worth l m) b.terms.price) both in
    absurd (omega (arith, below, ap (unit_worth l) (eqb-true b.terms.market m parts.0), ltb-true (unit_worth l m) b.terms.price parts.1)))
    (λ _. refl)

-- nor does one of another market
counts-elsewhere : (l : Multipliers) (m : ℕ) (b : OpenBand) → (b.terms.market ≡ m → ⊥) → counted l m b ≡ 0
counts-elsewhere l m b not = grind (arith, nat_tests)

-- the bands so far ask for no more than 64 can
asked-few : {d : View} → Ranged d → (l : Multipliers) (bs : List OpenBand) (i : ℕ) → bs ≡ d.bands
    → list_all (λ n. leb n 6400000000) (row (asked_above (take i bs) l) 1 5) ≡ true
asked-few {d} ok l bs i held =
    let few : length (take i bs) ≤ 64 = simp length-take (omega (arith, ap length held, ok.few_bands)) in
    totals_most band_fits (counted l) 64 100000000 6400000000 (take i bs) 1 5
    (λ m b e. where_most _ b.terms.quantity 100000000 (open_ranges b e).of_record.quantity)
    (each_take band_fits i bs (rw held ok.bands)) few (omega arith)

module _ (l : Multipliers) (bs : List OpenBand) (i : ℕ) (inside : i < length bs) where
  -- the next band
  abbrev next : OpenBand
  next = get_or bs i no_band

  -- with it
  asked_more : (m : ℕ) → asked_above (take (i + 1) bs) l m ≡ asked_above (take i bs) l m + counted l m next
  asked_more m =
      omega (arith, ap (total (counted l m)) (take_more bs i no_band inside), total-append (counted l m) (take i bs) (next ∷ []))

  -- where it pays above its market's multiplier, its quantity is added at its market's place
  asked-there : 1 ≤ next.terms.market → next.terms.market ≤ 5 → unit_worth l next.terms.market < next.terms.price
      → (let so_far = row (asked_above (take i bs) l) 1 5 in
      set so_far (next.terms.market - 1) (get_or so_far (next.terms.market - 1) 0 + next.terms.quantity)) ≡ row (asked_above (take (i + 1) bs) l) 1 5
  asked-there low high above =
      let place = next.terms.market - 1 in
      let market : 1 + place ≡ next.terms.market = omega arith in
      let old : get_or (row (asked_above (take i bs) l) 1 5) place 0 ≡ asked_above (take i bs) l (1 + place) = getD_row (asked_above (take i bs) l) 1 5 place 0 (omega arith) in
      let worth : unit_worth l (1 + place) < next.terms.price = subst (λ (m : ℕ). unit_worth l m < next.terms.price) (sym market) above in
      sym (row-set (asked_above (take i bs) l) (asked_above (take (i + 1) bs) l) _ 1 5 place
      (omega (arith, asked_more (1 + place), counts l (1 + place) next (sym market) worth, old))
      (λ m ne. omega (arith, asked_more m, counts-elsewhere l m next (λ e. ne (sym e ∙ sym market)))))

  -- where it pays no more, nothing is
  asked-same : next.terms.price ≤ unit_worth l next.terms.market → row (asked_above (take i bs) l) 1 5 ≡ row (asked_above (take (i + 1) bs) l) 1 5
  asked-same below =
      row_same (asked_above (take i bs) l) (asked_above (take (i + 1) bs) l) 1 5 (λ m h. omega (arith, asked_more m, counts-below l m next below))

pub overflow_add-asked : goal.overflow_add-asked
overflow_add-asked c =
    let bs = c.as_slice-band-items.result.now in
    let r = band_ranged c.docket.invariant c.loop-band.band-index bs c.as_slice-band-items.ensures.value c.loop-band-test.true in
    let few = subst (λ (xs : List ℕ). list_all (λ n. leb n 6400000000) xs ≡ true) (sym c.loop-band.invariant) (asked-few c.docket.invariant c.args.multipliers.now bs c.loop-band.band-index c.as_slice-band-items.ensures.value) in
    omega (arith, r.of_record.quantity, each-most 6400000000 c.loop-band.asked ((get_or bs c.loop-band.band-index no_band).terms.market - 1) few)

pub loop-band-preserved : goal.loop-band-preserved
loop-band-preserved c =
    let l = c.args.multipliers.now in
    let bs = c.as_slice-band-items.result.now in
    let i = c.loop-band.band-index in
    let inside = c.loop-band-test.true in
    let b = get_or bs i no_band in
    let r = band_ranged c.docket.invariant i bs c.as_slice-band-items.ensures.value inside in
    elim c.if-multipliers-market.branch [
      | then-multipliers-market w ↦
          w.asked-is
          ∙ ap (λ xs. set xs (b.terms.market - 1) (get_or xs (b.terms.market - 1) 0 + b.terms.quantity)) c.loop-band.invariant
          ∙ asked-there l bs i inside r.of_record.market_least r.of_record.market w.if-multipliers-market.true
      | else-multipliers-market w ↦ w.asked-is ∙ c.loop-band.invariant ∙ asked-same l bs i inside w.if-multipliers-market.false
    ]
