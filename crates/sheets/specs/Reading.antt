-- What a catch-up makes of entries and bytes.
use Rattle.std.specs.Prelude.{ℕ, zero, suc, ◌+◌, List, [], ◌∷◌, length, Ok, Err, Result}
use Rattle.offers.specs.declared.refusals.Refusal.{Refusal}
use Rattle.offers.specs.Registers.{Outcome}
use Rattle.offers.specs.Memory.{Entries, layout_of, entries_of, with_entries}
use Rattle.sheets.specs.declared.fields.Cursor.{Cursor}
use Rattle.sheets.specs.Fields.{SheetField, split_field, Entering, enter_content, HEADER}

-- a field taken into the entries of all kinds
abbrev pub enter_field : Entries → Cursor → SheetField → Entering Entries
enter_field all cursor p = record {
  answer = (enter_content (layout_of p.kind) (entries_of all p.kind) cursor p.content).answer;
  after = with_entries all p.kind (enter_content (layout_of p.kind) (entries_of all p.kind) cursor p.content).after;
}

-- how far a reader has come after a field with this number
abbrev pub after_field : Cursor → SheetField → ℕ → Cursor
after_field cursor p number = record {
  next_byte = cursor.next_byte + HEADER + length p.content;
  last_tag = (layout_of p.kind).tag;
  last_number = number;
}

-- where a reader begins
abbrev pub start_cursor : Cursor
start_cursor = record { next_byte = 0; last_tag = 0; last_number = 0 }

-- goes on with what was answered, or stays refused
abbrev pub and_then : {X Y : Type 0} → Result X Refusal → (X → Result Y Refusal) → Result Y Refusal
and_then (Ok x) f = f x
and_then (Err e) f = Err e

-- Field by field, the first offence deciding. Each field has bytes of its own, so a sheet's length is turns enough.
abbrev pub catch_from : ℕ → Entries → Cursor → List ℕ → Result Entries Refusal
catch_from zero all cursor bs = Ok all
catch_from (suc turns) all cursor [] = Ok all
catch_from (suc turns) all cursor (b ∷ bs) =
    and_then (split_field (b ∷ bs) cursor.next_byte) (λ p.
    and_then (enter_field all cursor p).answer (λ number.
    catch_from turns (enter_field all cursor p).after (after_field cursor p number) p.rest))

-- the entries after a sheet, or why it is refused
abbrev pub catch_up : Entries → List ℕ → Result Entries Refusal
catch_up all bs = catch_from (length bs) all start_cursor bs

abbrev stored : Entries → Result Entries Refusal → Outcome Entries
stored all (Ok after) = record { answer = Ok tt; after = after }
stored all (Err e) = record { answer = Err e; after = all }

-- A catch-up reads the whole sheet before it changes anything.
abbrev pub catching_up : Entries → List ℕ → Outcome Entries
catching_up all bs = stored all (catch_up all bs)
