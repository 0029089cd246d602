-- A catch-up one field at a time: what it takes to go on from a field, and what goes on without it.
use Rattle.std.proofs.Common.{◌≡◌, ℕ, zero, suc, ◌-◌, List, [], ◌∷◌, set, Ok, Err, Result, refl, ap, subst}
use Rattle.offers.specs.declared.refusals.Refusal.{Refusal}
use Rattle.offers.specs.declared.registers.Entry.{Entry}
use Rattle.offers.specs.Layouts.{Layout}
use Rattle.offers.specs.Registers.{entry}
use Rattle.offers.specs.Memory.{Entries, RecordOf, layout_of, entries_of, with_entries}
use Rattle.sheets.specs.declared.fields.Cursor.{Cursor}
use Rattle.sheets.specs.Fields.{SheetField, split_field, joined_entry, number_in, withdrawn_in, record_in}
use Rattle.sheets.specs.Reading.{enter_field, after_field, and_then, catch_from}
use Rattle.sheets.proofs.Checks.{Passed, Fair, accepted, passed-answer, passed-left, enter_content_fair}
use Rattle.sheets.proofs.Headers.{never_both, split_fair}

-- the entries of a kind with a content joined to that of its number
abbrev pub content_joined : {R : Type 0} → Layout R → List (Entry R) → List ℕ → List (Entry R)
content_joined k es content =
    set es (number_in content - 1) (joined_entry (entry es (number_in content)) (withdrawn_in content) (record_in k content))

-- the same of the entries of all kinds
abbrev pub field_joined : Entries → SheetField → Entries
field_joined all p =
    with_entries all p.kind (content_joined (layout_of p.kind) (entries_of all p.kind) p.content)

-- a piece whose content passes
abbrev pub FieldPassed : Entries → Cursor → SheetField → Type 0
FieldPassed all cursor p = Passed (layout_of p.kind) (entries_of all p.kind) cursor p.content

-- two values that are answered alike are the same
pub same_ok : {X : Type 0} (x y : X) → ◌≡◌ {A = Result X Refusal} (Ok x) (Ok y) → x ≡ y
same_ok x y e = cc

-- where going on came to a value, there was one to go on from
and_then_ok : {X Y : Type 0} (r : Result X Refusal) (f : X → Result Y Refusal) (y : Y) → and_then r f ≡ Ok y → (x : X) × (r ≡ Ok x) × (f x ≡ Ok y)
and_then_ok (Ok x) f y e = (x, refl, e)
and_then_ok (Err said) f y e = absurd (never_both said y e)

-- the first field of an accepted sheet, and what is left
pub record Step (t : ℕ) (all : Entries) (cursor : Cursor) (bs : List ℕ) (after : Entries) : Type 0 where
  pub piece : SheetField
  pub splits : split_field bs cursor.next_byte ≡ Ok piece
  pub passed : FieldPassed all cursor piece
  pub goes_on : catch_from t (field_joined all piece) (after_field cursor piece (number_in piece.content)) piece.rest ≡ Ok after

-- an accepted sheet that has a byte has a first field
pub stepped : (t : ℕ) (all : Entries) (cursor : Cursor) (b : ℕ) (bs : List ℕ) (after : Entries) → catch_from (suc t) all cursor (b ∷ bs) ≡ Ok after → Step t all cursor (b ∷ bs) after
stepped t all cursor b bs after e =
    let s = and_then_ok (split_field (b ∷ bs) cursor.next_byte) _ after e in
    let p = s.0 in
    let a = and_then_ok (enter_field all cursor p).answer _ after s.2 in
    let ok = accepted (layout_of p.kind) (entries_of all p.kind) cursor p.content a.0 a.1 in
    let numbered = subst (λ (n : ℕ). catch_from t (enter_field all cursor p).after (after_field cursor p n) p.rest ≡ Ok after) ok.is_number a.2 in
    record {
      piece = p;
      splits = s.1;
      passed = ok.passed;
      goes_on = subst (λ (es : List (Entry (RecordOf p.kind))). catch_from t (with_entries all p.kind es) (after_field cursor p (number_in p.content)) p.rest ≡ Ok after) (passed-left (layout_of p.kind) (entries_of all p.kind) cursor p.content ok.passed) numbered;
    }

-- and a field that passes is gone on from
pub step_on : (t : ℕ) (all : Entries) (cursor : Cursor) (b : ℕ) (bs : List ℕ) (p : SheetField) → split_field (b ∷ bs) cursor.next_byte ≡ Ok p → FieldPassed all cursor p
    → catch_from (suc t) all cursor (b ∷ bs) ≡ catch_from t (field_joined all p) (after_field cursor p (number_in p.content)) p.rest
step_on t all cursor b bs p e ok =
    rw (e, passed-answer (layout_of p.kind) (entries_of all p.kind) cursor p.content ok)
    (ap (λ (es : List (Entry (RecordOf p.kind))). catch_from t (with_entries all p.kind es) (after_field cursor p (number_in p.content)) p.rest)
    (passed-left (layout_of p.kind) (entries_of all p.kind) cursor p.content ok))

-- going on from what is fair, in a way that is fair, is fair
fair_then : {X Y : Type 0} (r : Result X Refusal) (f : X → Result Y Refusal) → Fair r → ((x : X) → Fair (f x)) → Fair (and_then r f)
fair_then (Ok x) f h g = g x
fair_then (Err said) f h g = h

-- so the refusal of a sheet, of whichever field, carries no more than its code does
pub catch_fair : (t : ℕ) (all : Entries) (cursor : Cursor) (bs : List ℕ) → Fair (catch_from t all cursor bs)
catch_fair zero all cursor bs = tt
catch_fair (suc t) all cursor [] = tt
catch_fair (suc t) all cursor (b ∷ bs) =
    fair_then (split_field (b ∷ bs) cursor.next_byte) _ (split_fair (b ∷ bs) cursor.next_byte) (λ p.
    fair_then (enter_field all cursor p).answer _ (enter_content_fair (layout_of p.kind) (entries_of all p.kind) cursor p.content) (λ number.
    catch_fair t (enter_field all cursor p).after (after_field cursor p number) p.rest))
