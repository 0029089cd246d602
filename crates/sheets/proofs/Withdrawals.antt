-- After an accepted sheet a number is withdrawn if it was so before, or if one of the fields says so, and not otherwise.
use Rattle.std.proofs.Common.{◌≡◌, ℕ, zero, suc, ◌+◌, ◌-◌, ◌<◌, Bool, true, false, ◌&&◌, ◌||◌, eqb, List, [], ◌∷◌, length, get_or, Ok, sym, refl, ap, ◌∙◌, subst, ⊎_elim, arith}
use Rattle.std.proofs.lemmas.List.{get_or-set_same, get_or-set_other}
use Rattle.std.proofs.lemmas.Bool.{cases_eq, eq-eqb, ne_eqb}
use Rattle.offers.specs.declared.registers.Entry.{Entry}
use Rattle.offers.specs.declared.registers.Entry.TheVariants.{Vacant, Open, Withdrawn}
use Rattle.offers.specs.declared.kinds.Kind.{Kind}
use Rattle.offers.specs.Layouts.{Layout}
use Rattle.offers.specs.Registers.{entry}
use Rattle.offers.specs.Memory.{Entries, layout_of, entries_of}
use Rattle.offers.proofs.RegisterLaws.{inside}
use Rattle.sheets.specs.declared.fields.Cursor.{Cursor}
use Rattle.sheets.specs.Fields.{SheetField, joined_entry, number_in, withdrawn_in, record_in}
use Rattle.sheets.specs.Reading.{after_field, catch_from}
use Rattle.sheets.specs.Laws.{is_withdrawn, withdrawn_at, fields_from, among_withdrawn}
use Rattle.sheets.proofs.Checks.{Passed}
use Rattle.sheets.proofs.Headers.{split_anywhere}
use Rattle.sheets.proofs.KindLaws.{same_kind, entries_with, entries_beside}
use Rattle.sheets.proofs.Steps.{content_joined, field_joined, FieldPassed, same_ok, stepped}

-- nothing is added by what is false
or_false : (x : Bool) → x ≡ (x || false)
or_false true = refl
or_false false = refl

-- of three it does not matter which two come first
or_assoc : (x y z : Bool) → ((x || y) || z) ≡ (x || (y || z))
or_assoc true y z = refl
or_assoc false y z = refl

-- what is joined is withdrawn if either was
joined-withdrawn : {R : Type 0} (e : Entry R) (withdrawn : Bool) (r : R) → is_withdrawn (joined_entry e withdrawn r) ≡ (is_withdrawn e || withdrawn)
joined-withdrawn Vacant true r = refl
joined-withdrawn Vacant false r = refl
joined-withdrawn (Open mine) true r = refl
joined-withdrawn (Open mine) false r = refl
joined-withdrawn (Withdrawn mine) withdrawn r = refl

-- a content says of a number of its kind that it is withdrawn
abbrev says : List ℕ → ℕ → Bool
says content n = eqb (number_in content) n && withdrawn_in content

-- a number is withdrawn after if it was before or it is said to be
abbrev Withdrawing : {R : Type 0} → List (Entry R) → List (Entry R) → (ℕ → Bool) → ℕ → Type 0
Withdrawing before after said i = is_withdrawn (get_or after i Vacant) ≡ (is_withdrawn (get_or before i Vacant) || said (i + 1))

-- of its register a content withdraws the number that it says, if any
content-withdrawn : {R : Type 0} (k : Layout R) (es : List (Entry R)) (cursor : Cursor) (content : List ℕ) → Passed k es cursor content → (i : ℕ) → Withdrawing es (content_joined k es content) (says content) i
content-withdrawn k es cursor content ok i = ⊎_elim here there (cases_eq i (number_in content - 1))
  where
    here : i ≡ number_in content - 1 → Withdrawing es (content_joined k es content) (says content) i
    here e =
        let place = inside k es (number_in content) ok.has_entry in
        let new = joined_entry (entry es (number_in content)) (withdrawn_in content) (record_in k content) in
        let within : number_in content - 1 < length es = omega arith in
        let same = get_or-set_same es (number_in content - 1) new Vacant within in
        let is = eq-eqb (number_in content) (number_in content - 1 + 1) (omega arith) in
        rw e (rw (same, is) (joined-withdrawn (entry es (number_in content)) (withdrawn_in content) (record_in k content)))

    there : (i ≡ number_in content - 1 → ⊥) → Withdrawing es (content_joined k es content) (says content) i
    there ne =
        let new = joined_entry (entry es (number_in content)) (withdrawn_in content) (record_in k content) in
        let place = inside k es (number_in content) ok.has_entry in
        let other = get_or-set_other es (number_in content - 1) i new Vacant ne in
        let differs = ne_eqb (number_in content) (i + 1) (λ e. ne (omega arith)) in
        rw (other, differs) (or_false (is_withdrawn (get_or es i Vacant)))

-- a field says of a number of a kind that it is withdrawn
abbrev field_says : SheetField → Kind → ℕ → Bool
field_says p k n = eqb (layout_of p.kind).tag (layout_of k).tag && says p.content n

-- of all kinds a field withdraws what it says
field-withdrawn : (all : Entries) (cursor : Cursor) (p : SheetField) → FieldPassed all cursor p → (k : Kind) (i : ℕ) → Withdrawing (entries_of all k) (entries_of (field_joined all p) k) (field_says p k) i
field-withdrawn all cursor p ok k i = ⊎_elim own beside (cases_eq (layout_of p.kind).tag (layout_of k).tag)
  where
    own : (layout_of p.kind).tag ≡ (layout_of k).tag → Withdrawing (entries_of all k) (entries_of (field_joined all p) k) (field_says p k) i
    own e =
        subst (λ (j : Kind). Withdrawing (entries_of all j) (entries_of (field_joined all p) j) (field_says p j) i) (same_kind p.kind k e)
        (rw (
          entries_with all p.kind (content_joined (layout_of p.kind) (entries_of all p.kind) p.content),
          eq-eqb (layout_of p.kind).tag (layout_of p.kind).tag refl,
        ) (content-withdrawn (layout_of p.kind) (entries_of all p.kind) cursor p.content ok i))

    beside : ((layout_of p.kind).tag ≡ (layout_of k).tag → ⊥) → Withdrawing (entries_of all k) (entries_of (field_joined all p) k) (field_says p k) i
    beside ne =
        rw (
          entries_beside all p.kind (content_joined (layout_of p.kind) (entries_of all p.kind) p.content) k ne,
          ne_eqb (layout_of p.kind).tag (layout_of k).tag ne,
        ) (or_false (withdrawn_at all k i))

-- and a sheet what its fields say
pub catch_withdrawn : (t : ℕ) (all : Entries) (cursor : Cursor) (bs : List ℕ) (after : Entries) → catch_from t all cursor bs ≡ Ok after → (k : Kind) (i : ℕ)
    → withdrawn_at after k i ≡ (withdrawn_at all k i || among_withdrawn (fields_from t bs) k (i + 1))
catch_withdrawn zero all cursor bs after e k i =
    ap (λ (x : Entries). withdrawn_at x k i) (sym (same_ok all after e)) ∙ or_false (withdrawn_at all k i)
catch_withdrawn (suc t) all cursor [] after e k i =
    ap (λ (x : Entries). withdrawn_at x k i) (sym (same_ok all after e)) ∙ or_false (withdrawn_at all k i)
catch_withdrawn (suc t) all cursor (b ∷ bs) after e k i =
    let s = stepped t all cursor b bs after e in
    let p = s.piece in
    let rest = catch_withdrawn t (field_joined all p) (after_field cursor p (number_in p.content)) p.rest after s.goes_on k i in
    let first = split_anywhere (b ∷ bs) cursor.next_byte 0 p s.splits in
    rw (first, ← or_assoc (withdrawn_at all k i) (field_says p k (i + 1)) (among_withdrawn (fields_from t p.rest) k (i + 1)), ← field-withdrawn all cursor p s.passed k i)
    rest
