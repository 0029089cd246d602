-- The laws of any layout whose fields make up the record and have room for their values.
use Rattle.std.specs.Prelude.{◌≡◌, ℕ, ◌+◌, ◌^◌, ◌<◌, Bool, true, false, cond, List, [], ◌∷◌, length, refl}
use Rattle.std.proofs.Common.{sym, ap, ◌∙◌, mod-eq_of_lt, arith}
use Rattle.std.proofs.lemmas.List.{length-append, take_at, drop_at}
use Rattle.offers.specs.Fields.{Field, high_first, widths, bytes_by, values_by, first_false, allowed_by}
use Rattle.offers.specs.Layouts.{Layout, LayoutLaws, bytes_of, read_from, fault_of}
use Rattle.offers.specs.Laws.HighFirst.{length-high_first, number-high_first}

-- the values of a record's fields
abbrev pub values_of : {R : Type 0} → List (Field R) → R → List ℕ
values_of [] r = []
values_of (f ∷ fs) r = f.value r ∷ values_of fs r

-- each value in range has room in its field's bytes
abbrev pub Narrow : {R : Type 0} → List (Field R) → R → Type 0
Narrow [] r = Unit {0}
Narrow (f ∷ fs) r = (f.allowed r ≡ true → f.value r < 256 ^ f.width) × Narrow fs r

-- each field has its width in bytes, and so the record has the sum of the widths
length-bytes : {R : Type 0} (fs : List (Field R)) (r : R) → length (bytes_by fs r) ≡ widths fs
length-bytes [] r = refl
length-bytes (f ∷ fs) r =
    length-append (high_first f.width (f.value r)) (bytes_by fs r)
    ∙ omega (arith, length-high_first f.width (f.value r), length-bytes fs r)

-- no first false one: this one is true, and there is none among the rest
none_false : (b : Bool) (rest n : ℕ) → 0 < n → cond b rest n ≡ 0 → (b ≡ true) × (rest ≡ 0)
none_false true rest n h e = (refl, e)
none_false false rest n h e = absurd (omega arith)

-- each field reads its own bytes off the front, and the rest reads the bytes that are left
values_back : {R : Type 0} (fs : List (Field R)) (r : R) (n : ℕ) → 0 < n → Narrow fs r
    → first_false n (allowed_by fs r) ≡ 0 → values_by fs (bytes_by fs r) ≡ values_of fs r
values_back [] r n h narrow none = refl
values_back (f ∷ fs) r n h narrow none =
    let parts = none_false (f.allowed r) (first_false (n + 1) (allowed_by fs r)) n h none in
    let wide = length-high_first f.width (f.value r) in
    let fits = number-high_first f.width (f.value r) ∙ mod-eq_of_lt (narrow.0 parts.0) in
    let rest = values_back fs r (n + 1) (omega arith) narrow.1 parts.1 in
    rw (take_at _ (bytes_by fs r) f.width wide, drop_at _ (bytes_by fs r) f.width wide, fits, rest)

-- the bytes give the values back, and the values make up the record, so that two records with equal bytes are equal
pub layout_laws : {R : Type 0} (k : Layout R) → ((r : R) → k.record_of (values_of k.fields r) ≡ r)
    → ((r : R) → Narrow k.fields r) → LayoutLaws k
layout_laws k whole narrow = record {
  sized = length-bytes k.fields;
  reads_back = back;
  apart = λ r s p q e. sym (back r p) ∙ ap (read_from k) e ∙ back s q;
}
  where
    back : (r : _) → fault_of k r ≡ 0 → read_from k (bytes_of k r) ≡ r
    back r p = ap k.record_of (values_back k.fields r 2 (omega arith) (narrow r) p) ∙ whole r
