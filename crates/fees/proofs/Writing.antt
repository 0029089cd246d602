-- Fees written into a row, one after another, and their total.
use Rattle.std.specs.List.{list_all, sum}
use Rattle.std.proofs.Common.{◌≡◌, ℕ, ◌+◌, ◌*◌, ◌<◌, ◌≤◌, true, leb, List, [], ◌∷◌, ◌++◌, map, length, get_or, take, drop, set, sym, ap, ◌∙◌, arith}
use Rattle.std.proofs.lemmas.Bool.{and_parts, leb-true}
use Rattle.std.proofs.lemmas.List.{append_assoc, drop_more, length-map, length-take-le, map-append, take_more}
use Rattle.std.proofs.lemmas.List.Sums.{sum_by-cons, sum_by_push}
use Rattle.std.proofs.Math.Seq.{set-append_seam}
use Rattle.clearing.proofs.Fits.{each_take, each-most}
use Rattle.fees.specs.declared.rates.FeeRates.{FeeRates}
use Rattle.fees.specs.Fees.{rates_in_range, fee}
use Rattle.fees.proofs.Rounding.{InRange, in_range, fee_most}

module _ (f : ℕ → ℕ) (xs : List ℕ) (i : ℕ) (inside : i < length xs) where
  -- the results so far, with the next
  map_more : map f (take (i + 1) xs) ≡ map f (take i xs) ++ f (get_or xs i 0) ∷ []
  map_more = ap (map f) (take_more xs i 0 inside) ∙ map-append f (take i xs) (get_or xs i 0 ∷ [])

  -- the next stands at its place, before what is left of the row
  pub row_more : (lent : List ℕ) → i < length lent
      → set (map f (take i xs) ++ drop i lent) i (f (get_or xs i 0)) ≡ map f (take (i + 1) xs) ++ drop (i + 1) lent
  row_more lent room =
      let done = map f (take i xs) in
      let long : length done ≡ i = length-map (take i xs) f ∙ length-take-le i xs (omega arith) in
      ap (λ (r : List ℕ). set (done ++ r) i (f (get_or xs i 0))) (drop_more lent i 0 room)
      ∙ ap (λ (n : ℕ). set (done ++ get_or lent i 0 ∷ drop (i + 1) lent) n (f (get_or xs i 0))) (sym long)
      ∙ set-append_seam done (get_or lent i 0) (drop (i + 1) lent) (f (get_or xs i 0))
      ∙ sym (append_assoc done (f (get_or xs i 0) ∷ []) (drop (i + 1) lent))
      ∙ ap (λ (r : List ℕ). r ++ drop (i + 1) lent) (sym map_more)

  -- and is added to the total
  pub sum_more : sum (map f (take i xs)) + f (get_or xs i 0) ≡ sum (map f (take (i + 1) xs))
  sum_more = sym (ap sum map_more ∙ sum_by_push (λ x. x) (map f (take i xs)) (f (get_or xs i 0)))

-- fees are together no more than so many times the greatest value
fees_most : (rates : FeeRates) → InRange rates → (xs : List ℕ) → list_all (λ n. leb n 64000000000000000) xs ≡ true → sum (map (fee rates) xs) ≤ length xs * 64000000000000000
fees_most rates r [] ok = omega arith
fees_most rates r (x ∷ xs) ok =
    let parts = and_parts (leb x 64000000000000000) (list_all (λ n. leb n 64000000000000000) xs) ok in
    omega (arith, sum_by-cons (λ x. x) (fee rates x) (map (fee rates) xs), fee_most rates x r, leb-true x 64000000000000000 parts.0, fees_most rates r xs parts.1)

-- so of at most 16 values the total has room for one fee more
pub total_fits : (rates : FeeRates) → rates_in_range rates ≡ true → (xs : List ℕ) (i : ℕ) → list_all (λ n. leb n 64000000000000000) xs ≡ true → i < 16 → i ≤ length xs
    → sum (map (fee rates) (take i xs)) + fee rates (get_or xs i 0) ≤ 1024000000000000000
total_fits rates e xs i ok few inside =
    let r = in_range rates e in
    let so_far = fees_most rates r (take i xs) (each_take (λ n. leb n 64000000000000000) i xs ok) in
    omega (arith, so_far, length-take-le i xs inside, fee_most rates (get_or xs i 0) r, each-most 64000000000000000 xs i ok)
