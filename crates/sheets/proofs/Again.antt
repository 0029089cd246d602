-- A sheet that was accepted is accepted again and changes nothing: each of its records is held already.
use Rattle.std.proofs.Common.{◌≡◌, ℕ, zero, suc, ◌-◌, ◌<◌, min, Bool, true, false, List, [], ◌∷◌, length, set, Ok, sym, refl, ap, ◌∙◌, subst, inl, inr, arith}
use Rattle.std.specs.Str.{bytes_eq}
use Rattle.std.proofs.lemmas.Slice.Eq.{bytes_eq-Decides}
use Rattle.std.proofs.lemmas.List.{length-set, get_or-set_same, set-get_or}
use Rattle.offers.specs.declared.registers.Entry.{Entry}
use Rattle.offers.specs.declared.registers.Entry.TheVariants.{Vacant, Open, Withdrawn}
use Rattle.offers.specs.Fields.{within}
use Rattle.offers.specs.Layouts.{Layout, bytes_of}
use Rattle.offers.specs.Registers.{entry, Onward}
use Rattle.offers.specs.Memory.{Entries, RecordOf, layout_of, entries_of, with_entries}
use Rattle.offers.proofs.RegisterLaws.{inside}
use Rattle.offers.proofs.MemoryLaws.{with_own}
use Rattle.sheets.specs.declared.fields.Cursor.{Cursor}
use Rattle.sheets.specs.Fields.{SheetField, agrees, entry_of, joined_entry, number_in, withdrawn_in, record_in}
use Rattle.sheets.specs.Reading.{after_field, catch_from}
use Rattle.sheets.proofs.Checks.{Passed}
use Rattle.sheets.proofs.Further.{FurtherIn, Further, further_then, catch_further}
use Rattle.sheets.proofs.KindLaws.{entries_with}
use Rattle.sheets.proofs.Steps.{content_joined, field_joined, FieldPassed, stepped, step_on}

-- a record has its own bytes
pub own-bytes : {R : Type 0} (k : Layout R) (r : R) → bytes_eq (bytes_of k r) (bytes_of k r) ≡ true
own-bytes k r = (bytes_eq-Decides (bytes_of k r) (bytes_of k r)).1 refl

-- an entry takes a record and stays as it is
record Absorbs {R : Type 0} (k : Layout R) (e : Entry R) (withdrawn : Bool) (r : R) : Type 0 where
  accord : agrees k e r ≡ true
  stays : joined_entry e withdrawn r ≡ e

-- an entry that has come further than one with the record's bytes absorbs it
holds : {R : Type 0} (k : Layout R) (mine r : R) → bytes_eq (bytes_of k mine) (bytes_of k r) ≡ true → (withdrawn : Bool) (later : Entry R) → Onward (entry_of withdrawn mine) later → Absorbs k later withdrawn r
holds k mine r same true later e = rw e (record { accord = same; stays = refl })
holds k mine r same false later (inl e) = rw e (record { accord = same; stays = refl })
holds k mine r same false later (inr e) = rw e (record { accord = same; stays = refl })

-- so does one that has come further than what was joined with it
absorbs : {R : Type 0} (k : Layout R) (e : Entry R) (withdrawn : Bool) (r : R) (later : Entry R) → agrees k e r ≡ true → Onward (joined_entry e withdrawn r) later → Absorbs k later withdrawn r
absorbs k Vacant withdrawn r later same on = holds k r r (own-bytes k r) withdrawn later on
absorbs k (Open mine) withdrawn r later same on = holds k mine r same withdrawn later on
absorbs k (Withdrawn mine) withdrawn r later same e = rw e (record { accord = same; stays = refl })

-- a register takes a content and stays as it is
record ContentAbsorbed {R : Type 0} (k : Layout R) (es : List (Entry R)) (cursor : Cursor) (content : List ℕ) : Type 0 where
  passed : Passed k es cursor content
  stays : content_joined k es content ≡ es

-- so does one that has come further than where the content was taken
content_absorbed : {R : Type 0} (k : Layout R) (es : List (Entry R)) (cursor : Cursor) (content : List ℕ) (later : List (Entry R)) → Passed k es cursor content → FurtherIn (content_joined k es content) later → ContentAbsorbed k later cursor content
content_absorbed k es cursor content later ok further =
    let n = number_in content in
    let r = record_in k content in
    let new = joined_entry (entry es n) (withdrawn_in content) r in
    let place = inside k es n ok.has_entry in
    let there : n - 1 < length es = omega arith in
    let long : length es ≡ length later = sym (further.as_long ∙ length-set es (n - 1) new) in
    let on = subst (λ (e : Entry _). Onward e (entry later n)) (get_or-set_same es (n - 1) new Vacant there) (further.onward (n - 1)) in
    let held = absorbs k (entry es n) (withdrawn_in content) r (entry later n) ok.accord on in
    record {
      passed = record {
        has_entry = subst (λ (m : ℕ). within 1 (min k.count m) n ≡ true) long ok.has_entry;
        rising = ok.rising;
        status = ok.status;
        fine = ok.fine;
        accord = held.accord;
      };
      stays = ap (set later (n - 1)) held.stays ∙ set-get_or later (n - 1) Vacant;
    }

-- the same of the entries of all kinds
record FieldAbsorbed (all : Entries) (cursor : Cursor) (p : SheetField) : Type 0 where
  passed : FieldPassed all cursor p
  stays : field_joined all p ≡ all

-- a piece that was taken is absorbed by what has come further since
field_absorbed : (all : Entries) (cursor : Cursor) (p : SheetField) (later : Entries) → FieldPassed all cursor p → Further (field_joined all p) later → FieldAbsorbed later cursor p
field_absorbed all cursor p later ok further =
    let new = content_joined (layout_of p.kind) (entries_of all p.kind) p.content in
    let own = subst (λ (es : List (Entry (RecordOf p.kind))). FurtherIn es (entries_of later p.kind)) (entries_with all p.kind new) (further p.kind) in
    let done = content_absorbed (layout_of p.kind) (entries_of all p.kind) cursor p.content (entries_of later p.kind) ok own in
    record {
      passed = done.passed;
      stays = ap (with_entries later p.kind) done.stays ∙ with_own later p.kind;
    }

-- a sheet that was accepted is absorbed by all that has come further than what it left
pub catch_again : (t : ℕ) (all : Entries) (cursor : Cursor) (bs : List ℕ) (after : Entries) → catch_from t all cursor bs ≡ Ok after → (later : Entries) → Further after later → catch_from t later cursor bs ≡ Ok later
catch_again zero all cursor bs after e later further = refl
catch_again (suc t) all cursor [] after e later further = refl
catch_again (suc t) all cursor (b ∷ bs) after e later further =
    let s = stepped t all cursor b bs after e in
    let p = s.piece in
    let next = after_field cursor p (number_in p.content) in
    let since = further_then (field_joined all p) after later (catch_further t (field_joined all p) next p.rest after s.goes_on) further in
    let done = field_absorbed all cursor p later s.passed since in
    step_on t later cursor b bs p s.splits done.passed
    ∙ ap (λ (x : Entries). catch_from t x next p.rest) done.stays
    ∙ catch_again t (field_joined all p) next p.rest after s.goes_on later further
