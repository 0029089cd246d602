-- What sheets are for, in words of the subject: what is written reads back, a withdrawal is never lost, two rounds come to agree.
use Rattle.std.specs.Prelude.{◌≡◌, ℕ, zero, suc, ◌+◌, Bool, true, false, ◌&&◌, ◌||◌, List, [], ◌∷◌, length, Ok, Err, Result, ◌==◌, slice_index_or}
use Rattle.offers.specs.declared.refusals.Refusal.{Refusal}
use Rattle.offers.specs.declared.registers.Entry.{Entry}
use Rattle.offers.specs.declared.registers.Entry.TheVariants.{Vacant, Open, Withdrawn}
use Rattle.offers.specs.declared.kinds.Kind.{Kind}
use Rattle.offers.specs.Refusals.{Carries}
use Rattle.offers.specs.Registers.{Onward}
use Rattle.offers.specs.Memory.{Entries, Sound, layout_of, entries_of, all_vacant}
use Rattle.sheets.specs.Fields.{SheetField, split_field, number_in, withdrawn_in}
use Rattle.sheets.specs.Reading.{catch_up}
use Rattle.sheets.specs.Writing.{sheet_of}

-- an entry is withdrawn
abbrev pub is_withdrawn : {R : Type 0} → Entry R → Bool
is_withdrawn Vacant = false
is_withdrawn (Open r) = false
is_withdrawn (Withdrawn r) = true

-- number i + 1 of a kind is withdrawn
abbrev pub withdrawn_at : Entries → Kind → ℕ → Bool
withdrawn_at all k i = is_withdrawn (slice_index_or (entries_of all k) i Vacant)

-- a field taken off a sheet, and then those of the rest; none once a header is not in order
abbrev pub after_split : Result SheetField Refusal → (List ℕ → List SheetField) → List SheetField
after_split (Ok p) rest = p ∷ rest p.rest
after_split (Err e) rest = []

-- the fields of a sheet, as far as their headers are in order; its length is turns enough
abbrev pub fields_from : ℕ → List ℕ → List SheetField
fields_from zero bs = []
fields_from (suc turns) [] = []
fields_from (suc turns) (b ∷ bs) = after_split (split_field (b ∷ bs) 0) (fields_from turns)

-- one of the fields has this tag and number, with the status withdrawn
abbrev pub among_withdrawn : List SheetField → Kind → ℕ → Bool
among_withdrawn [] k n = false
among_withdrawn (p ∷ ps) k n =
    ((layout_of p.kind).tag == (layout_of k).tag && (number_in p.content == n && withdrawn_in p.content))
    || among_withdrawn ps k n

-- the sheet has the number of a kind withdrawn
abbrev pub says_withdrawn : List ℕ → Kind → ℕ → Bool
says_withdrawn bs k n = among_withdrawn (fields_from (length bs) bs) k n

-- What a catch-up keeps, of any entries and any bytes.
pub record CaughtUp (before : Entries) (bs : List ℕ) (answer : Result Unit Refusal) (after : Entries) : Type 0 where
  -- a refused sheet changes nothing, and its refusal carries no more than its code does
  pub unchanged : (r : Refusal) → answer ≡ Err r → after ≡ before
  pub carries : (r : Refusal) → answer ≡ Err r → Carries r
  -- no number goes back, and no record changes
  pub onward : (k : Kind) (i : ℕ) → Onward (slice_index_or (entries_of before k) i Vacant) (slice_index_or (entries_of after k) i Vacant)
  -- after an accepted sheet a number is withdrawn exactly if it was so before or the sheet has it withdrawn
  pub withdrawn : answer ≡ Ok tt → (k : Kind) (i : ℕ) → withdrawn_at after k i ≡ (withdrawn_at before k i || says_withdrawn bs k (i + 1))
  -- catching up twice with one sheet is catching up once
  pub once : answer ≡ Ok tt → catch_up after bs ≡ Ok after

-- What the sheet of a round's entries is to this round and to every other.
pub record Faithful (all : Entries) : Type 0 where
  -- a vacant round that catches up with it has the same entries
  pub reads_back : catch_up all_vacant (sheet_of all) ≡ Ok all
  -- so other entries write another sheet
  pub apart : (other : Entries) → Sound other → sheet_of other ≡ sheet_of all → other ≡ all
  -- the round's own sheet changes nothing
  pub own : catch_up all (sheet_of all) ≡ Ok all
  -- two rounds that each accept the other's sheet hold the same entries afterwards
  pub agree : (other mine theirs : Entries) → Sound other → catch_up all (sheet_of other) ≡ Ok mine
      → catch_up other (sheet_of all) ≡ Ok theirs → mine ≡ theirs
  -- and so they do where one catches up first and its new sheet goes to the other
  pub in_turn : (other mine : Entries) → Sound other → catch_up all (sheet_of other) ≡ Ok mine
      → catch_up other (sheet_of mine) ≡ Ok mine
