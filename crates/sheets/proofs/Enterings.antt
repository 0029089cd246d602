-- A field taken into the entries of its kind, as one taken into the entries of all kinds.
use Rattle.std.proofs.Common.{◌≡◌, ℕ, List, Result, sym, ap, subst}
use Rattle.offers.specs.declared.refusals.Refusal.{Refusal}
use Rattle.offers.specs.declared.registers.Entry.{Entry}
use Rattle.offers.specs.declared.kinds.Kind.{Kind}
use Rattle.offers.specs.Memory.{Entries, RecordOf, layout_of, entries_of, with_entries}
use Rattle.sheets.specs.declared.fields.Cursor.{Cursor}
use Rattle.sheets.specs.Fields.{SheetField, content_size, enter_content}
use Rattle.sheets.specs.Reading.{enter_field}

-- a length that is one kind's is that of a kind equal to it
pub size_as : (j k : Kind) (n : ℕ) → j ≡ k → n ≡ content_size (layout_of k) → n ≡ content_size (layout_of j)
size_as j k n e = subst (λ (x : Kind). n ≡ content_size (layout_of x)) (sym e)

-- what a piece answers and leaves
pub record Takes (all : Entries) (cursor : Cursor) (p : SheetField) (answer : Result ℕ Refusal) (after : Entries) : Type 0 where
  pub answers : answer ≡ (enter_field all cursor p).answer
  pub leaves : after ≡ (enter_field all cursor p).after

-- what a content answers and leaves of its kind, said of the piece that has it, of offers that hold the kind's entries
pub takes : {all held : Entries} → all ≡ held → (cursor : Cursor) (j k : Kind) (content rest : List ℕ) (answer : Result ℕ Refusal) (es : List (Entry (RecordOf k))) → j ≡ k
    → answer ≡ (enter_content (layout_of k) (entries_of all k) cursor content).answer
    → es ≡ (enter_content (layout_of k) (entries_of all k) cursor content).after
    → Takes held cursor (record { kind = j; content = content; rest = rest }) answer (with_entries all k es)
takes {all} has cursor j k content rest answer es e f g =
    subst (λ (now : Entries). Takes now cursor (record { kind = j; content = content; rest = rest }) answer (with_entries all k es)) has
    (subst (λ (x : Kind). Takes all cursor (record { kind = x; content = content; rest = rest }) answer (with_entries all k es)) (sym e)
    (record { answers = f; leaves = ap (with_entries all k) g }))
