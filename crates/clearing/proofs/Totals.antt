-- Sums over a list: one list after another, and what a sum is at most.
use Rattle.std.specs.List.{list_all}
use Rattle.std.proofs.Common.{◌≡◌, ℕ, ◌+◌, ◌*◌, ◌≤◌, Bool, true, leb, List, [], ◌∷◌, ◌++◌, length, sym, ◌∙◌, mul-le-mul_right, add-mul, arith}
use Rattle.std.proofs.lemmas.Bool.{and_parts, le-leb}
use Rattle.clearing.specs.Choices.{total}
use Rattle.clearing.specs.Tallies.{row, plus}
use Rattle.clearing.proofs.Rows.{row_same, row-each, plus-row}

-- the sum over two lists, one after the other
pub total-append : {X : Type 0} (f : X → ℕ) (xs ys : List X) → total f (xs ++ ys) ≡ total f xs + total f ys
total-append f [] ys = omega arith
total-append f (x ∷ xs) ys = omega (arith, total-append f xs ys)

-- the sum over elements that pass a test is at most their count times what one is at most
pub total-most : {X : Type 0} (test : X → Bool) (f : X → ℕ) (most : ℕ) (xs : List X) → ((x : X) → test x ≡ true → f x ≤ most) → list_all test xs ≡ true → total f xs ≤ length xs * most
total-most test f most [] small ok = omega arith
total-most test f most (x ∷ xs) small ok =
    let parts = and_parts (test x) (list_all test xs) ok in
    omega (arith, small x parts.0, total-most test f most xs small parts.1, add-mul 1 (length xs) most)

-- rows of sums over two lists, one after the other
pub totals_append : {X : Type 0} (f : ℕ → X → ℕ) (xs ys : List X) (n count : ℕ)
    → row (λ m. total (f m) (xs ++ ys)) n count ≡ plus (row (λ m. total (f m) xs) n count) (row (λ m. total (f m) ys) n count)
totals_append f xs ys n count =
    row_same _ _ n count (λ m h. total-append (f m) xs ys)
    ∙ sym (plus-row (λ m. total (f m) xs) (λ m. total (f m) ys) n count)

-- each of a row of sums over at most so many elements is at most so many times what one is at most
pub totals_most : {X : Type 0} (test : X → Bool) (f : ℕ → X → ℕ) (few most all : ℕ) (xs : List X) (n count : ℕ)
    → ((m : ℕ) (x : X) → test x ≡ true → f m x ≤ most) → list_all test xs ≡ true → length xs ≤ few → few * most ≤ all
    → list_all (λ s. leb s all) (row (λ m. total (f m) xs) n count) ≡ true
totals_most test f few most all xs n count small ok short room =
    row-each (λ s. leb s all) (λ m. total (f m) xs) n count
    (λ m. le-leb (total (f m) xs) all (omega (arith, total-most test (f m) most xs (small m) ok, mul-le-mul_right most short)))
