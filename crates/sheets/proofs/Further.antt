-- Entries that have come further: no number goes back, no record changes, no register grows. So it is after each field.
use Rattle.std.proofs.Common.{◌≡◌, ℕ, zero, suc, Bool, true, false, List, [], ◌∷◌, length, get_or, Ok, refl, ◌∙◌, subst, inl, inr}
use Rattle.offers.specs.declared.registers.Entry.{Entry}
use Rattle.offers.specs.declared.registers.Entry.TheVariants.{Vacant, Open, Withdrawn}
use Rattle.offers.specs.declared.kinds.Kind.{Kind}
use Rattle.offers.specs.Layouts.{Layout}
use Rattle.offers.specs.Registers.{entry, Onward}
use Rattle.offers.specs.Memory.{Entries, layout_of, entries_of}
use Rattle.offers.proofs.RegisterLaws.{inside, onward-same, accepted_moved}
use Rattle.offers.proofs.MemoryLaws.{lifted-each}
use Rattle.sheets.specs.declared.fields.Cursor.{Cursor}
use Rattle.sheets.specs.Fields.{SheetField, joined_entry, number_in, withdrawn_in, record_in}
use Rattle.sheets.specs.Reading.{after_field, catch_from}
use Rattle.sheets.proofs.Checks.{Passed}
use Rattle.sheets.proofs.Steps.{content_joined, field_joined, FieldPassed, same_ok, stepped}

-- one step onward and then another
onward_then : {R : Type 0} (a b c : Entry R) → Onward a b → Onward b c → Onward a c
onward_then Vacant b c h g = tt
onward_then (Open r) b c (inl e) g = subst (λ (x : Entry _). Onward x c) e g
onward_then (Open r) b c (inr e) g = inr (subst (λ (x : Entry _). Onward x c) e g)
onward_then (Withdrawn r) b c e g = subst (λ (x : Entry _). Onward x c) e g

-- joining goes no step back
pub onward-joined : {R : Type 0} (e : Entry R) (withdrawn : Bool) (r : R) → Onward e (joined_entry e withdrawn r)
onward-joined Vacant withdrawn r = tt
onward-joined (Open mine) true r = inr refl
onward-joined (Open mine) false r = inl refl
onward-joined (Withdrawn mine) withdrawn r = refl

-- a register that has come further
pub record FurtherIn {R : Type 0} (before after : List (Entry R)) : Type 0 where
  pub onward : (i : ℕ) → Onward (get_or before i Vacant) (get_or after i Vacant)
  pub as_long : length after ≡ length before

-- the registers of all kinds
abbrev pub Further : Entries → Entries → Type 0
Further before after = (k : Kind) → FurtherIn (entries_of before k) (entries_of after k)

-- a register has come as far as itself
pub further_same : {R : Type 0} (es : List (Entry R)) → FurtherIn es es
further_same es = record { onward = λ i. onward-same (get_or es i Vacant); as_long = refl }

-- further and then further again
pub further_then : (a b c : Entries) → Further a b → Further b c → Further a c
further_then a b c h g k = record {
  onward = λ i. onward_then (get_or (entries_of a k) i Vacant) (get_or (entries_of b k) i Vacant) (get_or (entries_of c k) i Vacant) ((h k).onward i) ((g k).onward i);
  as_long = (g k).as_long ∙ (h k).as_long;
}

-- a content that passes brings its register further
content_further : {R : Type 0} (k : Layout R) (es : List (Entry R)) (cursor : Cursor) (content : List ℕ) → Passed k es cursor content → FurtherIn es (content_joined k es content)
content_further k es cursor content ok =
    let place = inside k es (number_in content) ok.has_entry in
    let moved = accepted_moved es (number_in content) (joined_entry (entry es (number_in content)) (withdrawn_in content) (record_in k content)) place.0 place.1 (onward-joined (entry es (number_in content)) (withdrawn_in content) (record_in k content)) in
    record { onward = moved.onward; as_long = moved.as_long }

-- and with it the entries of all kinds
pub field_further : (all : Entries) (cursor : Cursor) (p : SheetField) → FieldPassed all cursor p → Further all (field_joined all p)
field_further all cursor p ok =
    lifted-each (λ k before after. FurtherIn before after) (λ _ es. further_same es) all p.kind (content_joined (layout_of p.kind) (entries_of all p.kind) p.content)
    (content_further (layout_of p.kind) (entries_of all p.kind) cursor p.content ok)

-- so does a sheet that is accepted
pub catch_further : (t : ℕ) (all : Entries) (cursor : Cursor) (bs : List ℕ) (after : Entries) → catch_from t all cursor bs ≡ Ok after → Further all after
catch_further zero all cursor bs after e = subst (Further all) (same_ok all after e) (λ k. further_same (entries_of all k))
catch_further (suc t) all cursor [] after e = subst (Further all) (same_ok all after e) (λ k. further_same (entries_of all k))
catch_further (suc t) all cursor (b ∷ bs) after e =
    let s = stepped t all cursor b bs after e in
    further_then all (field_joined all s.piece) after
    (field_further all cursor s.piece s.passed)
    (catch_further t (field_joined all s.piece) (after_field cursor s.piece (number_in s.piece.content)) s.piece.rest after s.goes_on)
