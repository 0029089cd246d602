-- Tests of all records of a key, as the records are read one after another.
use Rattle.std.proofs.Common.{◌≡◌, ℕ, ◌+◌, ◌<◌, Bool, true, false, ◌&&◌, eqb, List, [], ◌∷◌, ◌++◌, length, get_or, set, take, Decides, refl, sym, ap, ◌∙◌, ap₂, zero-add}
use Rattle.std.specs.List.{AllByRecursion as Every}
use Rattle.std.proofs.ByRecursion.{Decides-by_and}
use Rattle.std.proofs.lemmas.List.{take_more}
use Rattle.std.proofs.lemmas.Bool.{and_right, eq-eqb, ne_eqb}
use Rattle.std.proofs.lemmas.Bool.Decides.{Decides-eqb}
use Rattle.clearing.specs.Judging.{implies}
use Rattle.clearing.specs.Tallies.{row}
use Rattle.bounds.specs.Live.{cleared}
use Rattle.clearing.proofs.Rows.{row_same, row-set}
use Rattle.clearing.proofs.Tested.{implies_decides, itself}

-- a test beside one that holds
and_true : (b : Bool) → (b && true) ≡ b
and_true true = refl
and_true false = refl

-- what holds follows from any
implies_true : (b : Bool) → implies b true ≡ true
implies_true true = refl
implies_true false = refl

-- three tests, grouped
and_grouped : (a b c : Bool) → (a && (b && c)) ≡ (a && b && c)
and_grouped true b c = refl
and_grouped false b c = refl

module _ {X : Type 0} (key : X → ℕ) (fine : X → Bool) where
  -- with one record more at the end
  cleared-last : (xs : List X) (x : X) (n : ℕ) → cleared key fine (xs ++ x ∷ []) n ≡ (cleared key fine xs n && implies (eqb (key x) n) (fine x))
  cleared-last [] x n = and_true (implies (eqb (key x) n) (fine x))
  cleared-last (y ∷ xs) x n =
      ap (λ b. implies (eqb (key y) n) (fine y) && b) (cleared-last xs x n)
      ∙ and_grouped (implies (eqb (key y) n) (fine y)) (cleared key fine xs n) (implies (eqb (key x) n) (fine x))

  -- what is cleared keeps the test of each record of the key
  pub cleared_decides : (n : ℕ) (xs : List X) → Decides (cleared key fine xs n) (Every (λ x. key x ≡ n → fine x ≡ true) xs)
  cleared_decides n =
      Decides-by_and (λ x. implies (eqb (key x) n) (fine x)) (λ x. key x ≡ n → fine x ≡ true) (λ xs. cleared key fine xs n)
      (λ x. implies_decides _ _ (Decides-eqb (key x) n) (itself (fine x))) refl (λ _ _. refl)

  module _ (xs : List X) (i : ℕ) (d : X) (inside : i < length xs) where
    -- with the next record
    cleared_more : (n : ℕ) → cleared key fine (take (i + 1) xs) n ≡ (cleared key fine (take i xs) n && implies (eqb (key (get_or xs i d)) n) (fine (get_or xs i d)))
    cleared_more n = ap (λ ys. cleared key fine ys n) (take_more xs i d inside) ∙ cleared-last (take i xs) (get_or xs i d) n

    -- one that fails the test bars its key
    pub cleared-bars : fine (get_or xs i d) ≡ false → set (row (cleared key fine (take i xs)) 0 41) (key (get_or xs i d)) false ≡ row (cleared key fine (take (i + 1) xs)) 0 41
    cleared-bars bad =
        let k = key (get_or xs i d) in
        let at : 0 + k ≡ k = zero-add k in
        sym (row-set (cleared key fine (take i xs)) (cleared key fine (take (i + 1) xs)) false 0 41 k
        (ap (cleared key fine (take (i + 1) xs)) at ∙ cleared_more k ∙ and_right (cleared key fine (take i xs) k) _ (ap₂ implies (eq-eqb k k refl) bad))
        (λ m ne.
        cleared_more m
        ∙ ap (λ b. cleared key fine (take i xs) m && implies b (fine (get_or xs i d))) (ne_eqb k m (λ e. ne (sym e ∙ sym at)))
        ∙ and_true (cleared key fine (take i xs) m)))

    -- one that passes bars none
    pub cleared-keeps : fine (get_or xs i d) ≡ true → row (cleared key fine (take i xs)) 0 41 ≡ row (cleared key fine (take (i + 1) xs)) 0 41
    cleared-keeps good =
        row_same (cleared key fine (take i xs)) (cleared key fine (take (i + 1) xs)) 0 41 (λ m h.
        sym (cleared_more m
        ∙ ap (λ b. cleared key fine (take i xs) m && implies (eqb (key (get_or xs i d)) m) b) good
        ∙ ap (λ b. cleared key fine (take i xs) m && b) (implies_true (eqb (key (get_or xs i d)) m))
        ∙ and_true (cleared key fine (take i xs) m)))
