-- Choices whose digits are set one after another, and what is taken of the packages that they stand for.
use Rattle.std.proofs.Common.{◌≡◌, ℕ, suc, ◌+◌, ◌*◌, ◌/◌, ◌%◌, ◌^◌, ◌<◌, Bool, true, false, cond, eqb, List, [], ◌∷◌, ◌++◌, length, get_or, take, drop, sym, refl, ap, ◌∙◌, add-one, arith}
use Rattle.std.specs.List.{filter}
use Rattle.std.proofs.Math.Nat.{pow-succ', div-div-eq-div-mul}
use Rattle.std.proofs.Math.Seq.{drop-cons}
use Rattle.std.proofs.lemmas.List.{append-nil, length-take-le, take_more}
use Rattle.std.proofs.lemmas.List.Elements.{filter-append}
use Rattle.clearing.specs.declared.dockets.PricedPackage.{PricedPackage}
use Rattle.clearing.specs.Choices.{taken}
use Rattle.bounds.specs.Laws.Splits.{taken_none, taken-splits}

module _ (ps : List PricedPackage) (i r : ℕ) (low : r < 2 ^ i) where
  -- digits below a place take of the packages before it
  taken-before : taken ps r ≡ taken (take i ps) r
  taken-before =
      let none : 0 * 2 ^ i + r ≡ r = omega arith in
      ap (taken ps) (sym none)
      ∙ taken-splits i 0 r low ps
      ∙ ap (λ ys. taken (take i ps) r ++ ys) (taken_none (drop i ps))
      ∙ append-nil (taken (take i ps) r)

  -- with the digit of that place they take the package there as well
  pub taken_with : (d : PricedPackage) → i < length ps → taken ps (r + 2 ^ i) ≡ taken ps r ++ get_or ps i d ∷ []
  taken_with d inside =
      let one : 1 * 2 ^ i + r ≡ r + 2 ^ i = omega arith in
      ap (taken ps) (sym one)
      ∙ taken-splits i 1 r low ps
      ∙ ap (λ ys. taken (take i ps) r ++ taken ys 1) (drop-cons ps i d inside)
      ∙ ap (λ ys. taken (take i ps) r ++ get_or ps i d ∷ ys) (taken_none (drop (suc i) ps))
      ∙ ap (λ xs. xs ++ get_or ps i d ∷ []) (sym taken-before)

-- of one package more that is kept which passes
kept_more : (test : PricedPackage → Bool) (ps : List PricedPackage) (i : ℕ) (d : PricedPackage) → i < length ps
    → filter test (take (i + 1) ps) ≡ filter test (take i ps) ++ cond (test (get_or ps i d)) (get_or ps i d ∷ []) []
kept_more test ps i d inside =
    ap (filter test) (take_more ps i d inside) ∙ filter-append test (take i ps) (get_or ps i d ∷ [])

-- what is kept with a package more, if it passes
pub kept-yes : (test : PricedPackage → Bool) (ps : List PricedPackage) (i : ℕ) (d : PricedPackage) → i < length ps → test (get_or ps i d) ≡ true
    → filter test (take (i + 1) ps) ≡ filter test (take i ps) ++ get_or ps i d ∷ []
kept-yes test ps i d inside is =
    kept_more test ps i d inside ∙ ap (λ one. filter test (take i ps) ++ cond one (get_or ps i d ∷ []) []) is

-- and if it does not
pub kept-no : (test : PricedPackage → Bool) (ps : List PricedPackage) (i : ℕ) (d : PricedPackage) → i < length ps → test (get_or ps i d) ≡ false
    → filter test (take (i + 1) ps) ≡ filter test (take i ps)
kept-no test ps i d inside is =
    kept_more test ps i d inside ∙ ap (λ one. filter test (take i ps) ++ cond one (get_or ps i d ∷ []) []) is ∙ append-nil _

-- a digit further a choice is halved once more
pub halved_more : (choice i : ℕ) → choice / 2 ^ (i + 1) ≡ choice / 2 ^ i / 2
halved_more choice i =
    let twice : 2 ^ (i + 1) ≡ 2 ^ i * 2 = rw (add-one i, pow-succ' 2 i) (omega arith) in
    ap (λ n. choice / n) twice ∙ sym (div-div-eq-div-mul choice (2 ^ i) 2)

-- one more before a list, where it is taken, with another list after both
cond-after : (one : Bool) (p : PricedPackage) (xs ys : List PricedPackage) → cond one (p ∷ (xs ++ ys)) (xs ++ ys) ≡ cond one (p ∷ xs) xs ++ ys
cond-after true p xs ys = refl
cond-after false p xs ys = refl

-- one package more at the end is taken if the digit at its place says so
taken_last : (ps : List PricedPackage) (p : PricedPackage) (choice : ℕ)
    → taken (ps ++ p ∷ []) choice ≡ taken ps choice ++ cond (eqb (choice / 2 ^ length ps % 2) 1) (p ∷ []) []
taken_last [] p choice =
    let whole : choice / 2 ^ 0 ≡ choice = omega arith in
    ap (λ n. cond (eqb (n % 2) 1) (p ∷ []) []) (sym whole)
taken_last (q ∷ ps) p choice =
    let half : choice / 2 / 2 ^ length ps ≡ choice / 2 ^ suc (length ps) = div-div-eq-div-mul choice 2 (2 ^ length ps) ∙ ap (λ n. choice / n) (sym (pow-succ' 2 (length ps))) in
    let digit = eqb (choice % 2) 1 in
    ap (λ xs. cond digit (q ∷ xs) xs) (taken_last ps p (choice / 2) ∙ ap (λ n. taken ps (choice / 2) ++ cond (eqb (n % 2) 1) (p ∷ []) []) half)
    ∙ cond-after digit q (taken ps (choice / 2)) (cond (eqb (choice / 2 ^ suc (length ps) % 2) 1) (p ∷ []) [])

-- so with the next one of a list
pub taken_next : (ps : List PricedPackage) (choice i : ℕ) (d : PricedPackage) → i < length ps
    → taken (take (i + 1) ps) choice ≡ taken (take i ps) choice ++ cond (eqb (choice / 2 ^ i % 2) 1) (get_or ps i d ∷ []) []
taken_next ps choice i d inside =
    ap (λ qs. taken qs choice) (take_more ps i d inside)
    ∙ taken_last (take i ps) (get_or ps i d) choice
    ∙ ap (λ n. taken (take i ps) choice ++ cond (eqb (choice / 2 ^ n % 2) 1) (get_or ps i d ∷ []) []) (length-take-le i ps (omega arith))
