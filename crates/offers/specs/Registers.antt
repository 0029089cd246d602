-- What filing and withdrawing do to the entries of one register, of whatever kind.
use Rattle.std.specs.Prelude.{◌≡◌, ℕ, ◌+◌, ◌-◌, min, Bool, true, false, ◌⊎◌, List, length, Some, None, Option, Ok, Err, Result, ◌==◌, ◌≢◌, slice_index_or, slice_set, if◌then◌else◌}
use Rattle.offers.specs.declared.refusals.Code.{Code}
use Rattle.offers.specs.declared.refusals.Code.TheVariants.{NumberOutside, FieldOutside, AlreadyOpen, AlreadyWithdrawn, NotFiled}
use Rattle.offers.specs.declared.refusals.Refusal.{Refusal}
use Rattle.offers.specs.declared.registers.Entry.{Entry}
use Rattle.offers.specs.declared.registers.Entry.TheVariants.{Vacant, Open, Withdrawn}
use Rattle.offers.specs.Fields.{within}
use Rattle.offers.specs.Layouts.{Layout, fault_of}

-- What one call answers, and what it leaves.
pub record Outcome (A : Type 0) : Type 0 where
  pub answer : Result Unit Refusal
  pub after : A

-- whether nothing stands there
abbrev pub is_vacant : {R : Type 0} → Entry R → Bool
is_vacant Vacant = true
is_vacant (Open r) = false
is_vacant (Withdrawn r) = false

-- the entry of an offer number; a number that has none counts as vacant
abbrev pub entry : {R : Type 0} → List (Entry R) → ℕ → Entry R
entry es n = slice_index_or es (n - 1) Vacant

-- an offer number has an entry if it is one of its kind's and the register is that long
abbrev pub numbered : {R : Type 0} → Layout R → List (Entry R) → ℕ → Bool
numbered k es n = within 1 (min k.count (length es)) n

-- the place of its entry
abbrev pub place : {R : Type 0} → Layout R → List (Entry R) → ℕ → Option ℕ
place k es n = if numbered k es n then Some (n - 1) else None

-- a refusal of a call on a number of a kind
abbrev pub refused_number : {R : Type 0} → Layout R → Code → ℕ → Refusal
refused_number k code n = record { code = code; tag = k.tag; number = n; field = 0; byte = 0; depth = 0 }

-- for a field of the record that comes with it
abbrev pub refused_field : {R : Type 0} → Layout R → ℕ → (field : ℕ) → Refusal
refused_field k n field = record { code = FieldOutside; tag = k.tag; number = n; field = field; byte = 0; depth = 0 }

abbrev pub refuse : {R : Type 0} → List (Entry R) → Refusal → Outcome (List (Entry R))
refuse es refusal = record { answer = Err refusal; after = es }

abbrev pub accept : {R : Type 0} → List (Entry R) → ℕ → Entry R → Outcome (List (Entry R))
accept es n e = record { answer = Ok tt; after = slice_set es (n - 1) e }

abbrev pub file_over : {R : Type 0} → Layout R → List (Entry R) → ℕ → R → Entry R → Outcome (List (Entry R))
file_over k es n r Vacant = accept es n (Open r)
file_over k es n r (Open old) = refuse es (refused_number k AlreadyOpen n)
file_over k es n r (Withdrawn old) = refuse es (refused_number k AlreadyWithdrawn n)

-- filing a record: the number, then the record's fields, then what stands there already
abbrev pub filing : {R : Type 0} → Layout R → List (Entry R) → ℕ → R → Outcome (List (Entry R))
filing k es n r =
    if numbered k es n
    then (if fault_of k r == 0 then file_over k es n r (entry es n) else refuse es (refused_field k n (fault_of k r)))
    else refuse es (refused_number k NumberOutside n)

abbrev pub withdraw_over : {R : Type 0} → Layout R → List (Entry R) → ℕ → Entry R → Outcome (List (Entry R))
withdraw_over k es n Vacant = refuse es (refused_number k NotFiled n)
withdraw_over k es n (Open r) = accept es n (Withdrawn r)
withdraw_over k es n (Withdrawn r) = refuse es (refused_number k AlreadyWithdrawn n)

-- withdrawing a number: the number, then what stands there
abbrev pub withdrawing : {R : Type 0} → Layout R → List (Entry R) → ℕ → Outcome (List (Entry R))
withdrawing k es n = if numbered k es n then withdraw_over k es n (entry es n) else refuse es (refused_number k NumberOutside n)

-- One entry later on: from vacant to open to withdrawn, never back, and always with the same record.
abbrev pub Onward : {R : Type 0} → Entry R → Entry R → Type 0
Onward Vacant later = Unit {0}
Onward (Open r) later = (later ≡ Open r) ⊎ (later ≡ Withdrawn r)
Onward (Withdrawn r) later = later ≡ Withdrawn r

-- What every call on number n of a register keeps. Number i + 1 stands at place i.
pub record Moved {R : Type 0} (before : List (Entry R)) (n : ℕ) (answer : Result Unit Refusal) (after : List (Entry R)) : Type 0 where
  -- no number goes back, and a record never changes
  pub onward : (i : ℕ) → Onward (slice_index_or before i Vacant) (slice_index_or after i Vacant)
  -- a refusal changes nothing
  pub unchanged : (r : Refusal) → answer ≡ Err r → after ≡ before
  -- nothing else in the register moves
  pub elsewhere : (i : ℕ) → (i + 1 ≢ n) → slice_index_or after i Vacant ≡ slice_index_or before i Vacant
  pub as_long : length after ≡ length before

-- the first field out of range of a record that an entry holds, 0 where there is none
abbrev pub entry_fault : {R : Type 0} → Layout R → Entry R → ℕ
entry_fault k Vacant = 0
entry_fault k (Open r) = fault_of k r
entry_fault k (Withdrawn r) = fault_of k r

-- every record of a register is in range
abbrev pub InRange : {R : Type 0} → Layout R → List (Entry R) → Type 0
InRange k es = (i : ℕ) → entry_fault k (slice_index_or es i Vacant) ≡ 0

-- what a ledger of so many entries holds: one for each number, and every record in range
pub record IsLedger {R : Type 0} (k : Layout R) (size : ℕ) (es : List (Entry R)) : Type 0 where
  pub whole : length es ≡ size
  pub numbered : length es ≡ k.count
  pub in_range : InRange k es
