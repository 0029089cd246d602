-- What splitting a field off owes to the byte where the field starts: its refusals name it, and its pieces do not.
use Rattle.std.proofs.Common.{◌≡◌, ℕ, ◌+◌, ◌*◌, Bool, true, false, cond, eqb, leb, List, [], ◌∷◌, length, Some, None, Ok, Err, Option, Result, refl, arith}
use Rattle.std.proofs.lemmas.Bool.{cond_both}
use Rattle.offers.specs.declared.refusals.Refusal.{Refusal}
use Rattle.offers.specs.declared.kinds.Kind.{Kind}
use Rattle.offers.specs.Memory.{layout_of}
use Rattle.sheets.specs.Fields.{SheetField, split_field, content_size}
use Rattle.offers.specs.Marks.{kind_of_tag}
use Rattle.sheets.proofs.Checks.{Fair}

-- no answer is both a refusal and a value
pub never_both : {X : Type 0} (said : Refusal) (x : X) → ◌≡◌ {A = Result X Refusal} (Err said) (Ok x) → ⊥
never_both said x e = let z : ◌≡◌ {A = ℕ} 0 1 = cc in omega arith

-- a value behind two tests does not depend on what is said where they fail
behind_tests : {X : Type 0} (c d : Bool) (x y : X) (said told other another : Refusal)
    → cond c (cond d (Ok x) (Err said)) (Err told) ≡ Ok y → cond c (cond d (Ok x) (Err other)) (Err another) ≡ Ok y
behind_tests true true x y said told other another e = e
behind_tests true false x y said told other another e = absurd (never_both said y e)
behind_tests false d x y said told other another e = absurd (never_both told y e)

-- so a piece is the same wherever its field starts
pub split_anywhere : (bs : List ℕ) (byte other : ℕ) (p : SheetField) → split_field bs byte ≡ Ok p → split_field bs other ≡ Ok p
split_anywhere [] byte other p e = absurd (never_both _ p e)
split_anywhere (tag ∷ []) byte other p e = absurd (never_both _ p e)
split_anywhere (tag ∷ high ∷ []) byte other p e = absurd (never_both _ p e)
split_anywhere (tag ∷ high ∷ low ∷ body) byte other p e = by (kind_of_tag tag) refl
  where
    by : (o : Option Kind) → kind_of_tag tag ≡ o → split_field (tag ∷ high ∷ low ∷ body) other ≡ Ok p
    by None is = absurd (never_both _ p (rw is at e))
    by (Some k) is =
        rw is
        (behind_tests (eqb (high * 256 + low) (content_size (layout_of k))) (leb (high * 256 + low) (length body)) _ p _ _ _ _ (rw is at e))

-- a refusal to split a field off has at most its tag and its byte
pub split_fair : (bs : List ℕ) (byte : ℕ) → Fair (split_field bs byte)
split_fair [] byte = record { tag = tt; number = refl; field = refl; byte = tt; depth = refl }
split_fair (tag ∷ []) byte = record { tag = tt; number = refl; field = refl; byte = tt; depth = refl }
split_fair (tag ∷ high ∷ []) byte = record { tag = tt; number = refl; field = refl; byte = tt; depth = refl }
split_fair (tag ∷ high ∷ low ∷ body) byte = by (kind_of_tag tag) refl
  where
    by : (o : Option Kind) → kind_of_tag tag ≡ o → Fair (split_field (tag ∷ high ∷ low ∷ body) byte)
    by None is = rw is (record { tag = tt; number = refl; field = refl; byte = tt; depth = refl })
    by (Some k) is =
        rw is
        (cond_both (eqb (high * 256 + low) (content_size (layout_of k))) _ _ Fair
        (λ _. cond_both (leb (high * 256 + low) (length body)) _ _ Fair
        (λ _. tt)
        (λ _. record { tag = tt; number = refl; field = refl; byte = tt; depth = refl }))
        (λ _. record { tag = tt; number = refl; field = refl; byte = tt; depth = refl }))
