-- The percentages that bind, as the limits are read one after another.
use Rattle.std.specs.List.{list_all}
use Rattle.std.proofs.Common.{◌≡◌, ℕ, ◌+◌, ◌-◌, ◌≤◌, min, Bool, true, false, cond, ◌&&◌, eqb, leb, List, [], ◌∷◌, ◌++◌, get_or, set, sym, refl, ap, ◌∙◌, arith}
use Rattle.std.proofs.lemmas.Bool.{cond_both, cond-true, cond-false, and_from, and_left, and_right, eq-eqb, ne_eqb, le-leb}
use Rattle.offers.specs.declared.records.Limit.{Limit}
use Rattle.clearing.specs.Lawful.{percentage}
use Rattle.clearing.specs.Tallies.{row}
use Rattle.clearing.proofs.Rows.{row_same, row-set, row-each, getD_row}

-- whether a limit sets a percentage
abbrev sets : Limit → ℕ → Bool
sets l zone = eqb l.sort 3 && eqb l.zone zone

-- the lesser of an amount and the lesser of two, whichever count
lesser : (b t : Bool) (m n p : ℕ) → cond b (min m (cond t (min p n) p)) (cond t (min p n) p) ≡ cond t (min (cond b (min m p) p) n) (cond b (min m p) p)
lesser true true m n p = omega arith
lesser true false m n p = refl
lesser false true m n p = refl
lesser false false m n p = refl

-- one limit more at the end
percentage_last : (ls : List Limit) (l : Limit) (zone : ℕ)
    → percentage (ls ++ l ∷ []) zone ≡ cond (sets l zone) (min (percentage ls zone) l.amount) (percentage ls zone)
percentage_last [] l zone = ap (λ n. cond (sets l zone) n 100) (omega arith)
percentage_last (k ∷ ls) l zone =
    ap (λ n. cond (sets k zone) (min k.amount n) n) (percentage_last ls l zone)
    ∙ lesser (sets k zone) (sets l zone) k.amount l.amount (percentage ls zone)

-- a percentage that binds is at most 100
percentage-most : (ls : List Limit) (zone : ℕ) → percentage ls zone ≤ 100
percentage-most [] zone = omega arith
percentage-most (l ∷ ls) zone =
    let rest = percentage-most ls zone in
    cond_both (sets l zone) _ _ (λ n. n ≤ 100) (λ _. omega arith) (λ _. rest)

-- so is each of a row of them
pub percentages_most : (ls : List Limit) (n count : ℕ) → list_all (λ n. leb n 100) (row (percentage ls) n count) ≡ true
percentages_most ls n count =
    row-each (λ n. leb n 100) (percentage ls) n count (λ zone. le-leb (percentage ls zone) 100 (percentage-most ls zone))

module _ (ls : List Limit) (l : Limit) where
  -- a limit of another sort sets none
  pub percentages_same : (l.sort ≡ 3 → ⊥) → row (percentage ls) 1 4 ≡ row (percentage (ls ++ l ∷ [])) 1 4
  percentages_same not =
      row_same (percentage ls) (percentage (ls ++ l ∷ [])) 1 4 (λ zone h.
      sym (percentage_last ls l zone ∙ cond-false (sets l zone) _ _ (and_left (eqb l.sort 3) (eqb l.zone zone) (ne_eqb l.sort 3 not))))

  -- a percentage sets that of its zone
  pub percentages_set : l.sort ≡ 3 → 1 ≤ l.zone → l.zone ≤ 4
      → set (row (percentage ls) 1 4) (l.zone - 1) (min (get_or (row (percentage ls) 1 4) (l.zone - 1) 0) l.amount) ≡ row (percentage (ls ++ l ∷ [])) 1 4
  percentages_set is low high =
      let zone : 1 + (l.zone - 1) ≡ l.zone = omega arith in
      let sort = eq-eqb l.sort 3 is in
      let old : get_or (row (percentage ls) 1 4) (l.zone - 1) 0 ≡ percentage ls (1 + (l.zone - 1)) = getD_row (percentage ls) 1 4 (l.zone - 1) 0 (omega arith) in
      sym (row-set (percentage ls) (percentage (ls ++ l ∷ [])) _ 1 4 (l.zone - 1)
      (percentage_last ls l (1 + (l.zone - 1))
      ∙ cond-true (sets l (1 + (l.zone - 1))) _ _ (and_from _ _ sort (eq-eqb l.zone (1 + (l.zone - 1)) (sym zone)))
      ∙ ap (λ n. min n l.amount) (sym old))
      (λ m ne. percentage_last ls l m
      ∙ cond-false (sets l m) _ _ (and_right (eqb l.sort 3) (eqb l.zone m) (ne_eqb l.zone m (λ e. ne (sym e ∙ sym zone))))))
