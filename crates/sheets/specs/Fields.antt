-- One field of a sheet: its header, the checks that it has to pass, and what it makes of the entries of its kind.
use Rattle.std.specs.Prelude.{ℕ, ◌+◌, ◌-◌, ◌*◌, Bool, true, false, ◌&&◌, ◌||◌, List, [], ◌∷◌, length, take, drop, Some, None, Ok, Err, Option, Result, ◌==◌, nat_le, nat_lt, slice_index, slice_set, if◌then◌else◌}
use Rattle.std.specs.Str.{bytes_eq}
use Rattle.offers.specs.declared.refusals.Code.{Code}
use Rattle.offers.specs.declared.refusals.Code.TheVariants.{NumberOutside, FieldOutside, CutShort, Strange, NotRising, Clash}
use Rattle.offers.specs.declared.refusals.Refusal.{Refusal}
use Rattle.offers.specs.declared.registers.Entry.{Entry}
use Rattle.offers.specs.declared.registers.Entry.TheVariants.{Vacant, Open, Withdrawn}
use Rattle.offers.specs.declared.kinds.Kind.{Kind}
use Rattle.offers.specs.Fields.{within}
use Rattle.offers.specs.Marks.{kind_of_tag}
use Rattle.offers.specs.Layouts.{Layout, size_of, bytes_of, read_from, fault_of}
use Rattle.offers.specs.Registers.{entry, numbered}
use Rattle.offers.specs.Memory.{layout_of}
use Rattle.sheets.specs.declared.fields.Cursor.{Cursor}
use Rattle.sheets.specs.declared.fields.Status.{Status}
use Rattle.sheets.specs.declared.fields.Status.TheVariants as status

-- the bytes of a content: offer number, status and record
abbrev pub content_size : {R : Type 0} → Layout R → ℕ
content_size k = size_of k + 2

-- the bytes of a header: tag and two of length
abbrev pub HEADER : ℕ
HEADER = 3

-- A field with its header taken off.
pub record SheetField : Type 0 where
  pub kind : Kind
  -- offer number, status and record
  pub content : List ℕ
  -- the sheet after the field
  pub rest : List ℕ

-- a refusal of a field that is too short for its header, of which nothing was read
abbrev pub no_header : (byte : ℕ) → Refusal
no_header byte = record { code = CutShort; tag = 0; number = 0; field = 0; byte = byte; depth = 0 }

-- a refusal of a field whose tag was read
abbrev pub refused_tagged : Code → ℕ → (byte : ℕ) → Refusal
refused_tagged code tag byte = record { code = code; tag = tag; number = 0; field = 0; byte = byte; depth = 0 }

-- the content by its length, or cut short
abbrev cut_content : Kind → ℕ → ℕ → List ℕ → ℕ → Result SheetField Refusal
cut_content k tag size body byte =
    if nat_le size (length body)
    then Ok (record { kind = k; content = take size body; rest = drop size body })
    else Err (refused_tagged CutShort tag byte)

-- a known tag with its kind's length, or strange
abbrev known_header : Option Kind → ℕ → ℕ → List ℕ → ℕ → Result SheetField Refusal
known_header None tag size body byte = Err (refused_tagged Strange tag byte)
known_header (Some k) tag size body byte =
    if size == content_size (layout_of k) then cut_content k tag size body byte else Err (refused_tagged Strange tag byte)

-- The header of the field that starts at a byte: cut short, then strange, then its content cut short.
abbrev pub split_field : List ℕ → ℕ → Result SheetField Refusal
split_field [] byte = Err (no_header byte)
split_field (tag ∷ []) byte = Err (no_header byte)
split_field (tag ∷ high ∷ []) byte = Err (no_header byte)
split_field (tag ∷ high ∷ low ∷ body) byte = known_header (kind_of_tag tag) tag (high * 256 + low) body byte

-- a field's tag and number come after those of the field that was read before it
abbrev pub rises : Cursor → ℕ → ℕ → Bool
rises cursor tag n = nat_lt cursor.last_tag tag || (cursor.last_tag == tag && nat_lt cursor.last_number n)

-- an entry can be joined with a record sent for its number: not where it holds another one (a record is known by its bytes)
abbrev pub agrees : {R : Type 0} → Layout R → Entry R → R → Bool
agrees k Vacant r = true
agrees k (Open mine) r = bytes_eq (bytes_of k mine) (bytes_of k r)
agrees k (Withdrawn mine) r = bytes_eq (bytes_of k mine) (bytes_of k r)

-- what a status byte says of an entry
abbrev pub status_of : ℕ → Option Status
status_of n = if n == 1 then Some status.Open else if n == 2 then Some status.Withdrawn else None

abbrev pub status_byte : Status → ℕ
status_byte status.Open = 1
status_byte status.Withdrawn = 2

abbrev pub status_withdrawn : Status → Bool
status_withdrawn status.Open = false
status_withdrawn status.Withdrawn = true

abbrev pub entry_of : {R : Type 0} → Bool → R → Entry R
entry_of withdrawn r = if withdrawn then Withdrawn r else Open r

-- what becomes of an entry: a vacant one takes what is sent, and any other is withdrawn if either says so
abbrev pub joined_entry : {R : Type 0} → Entry R → Bool → R → Entry R
joined_entry Vacant withdrawn r = entry_of withdrawn r
joined_entry (Open mine) withdrawn r = entry_of withdrawn mine
joined_entry (Withdrawn mine) withdrawn r = Withdrawn mine

-- One check of a field, with the refusal where it fails.
pub record Check : Type 0 where
  pub passed : Bool
  pub refusal : Refusal

abbrev check : Bool → Refusal → Check
check passed refusal = record { passed = passed; refusal = refusal }

abbrev pub first_failed : List Check → Option Refusal
first_failed [] = None
first_failed (c ∷ cs) = if c.passed then first_failed cs else Some c.refusal

-- the offer number, whether the status is withdrawn, and the record of a content
abbrev pub number_in : List ℕ → ℕ
number_in content = slice_index content 0

abbrev pub status_in : List ℕ → ℕ
status_in content = slice_index content 1

abbrev pub withdrawn_in : List ℕ → Bool
withdrawn_in content = status_in content == 2

abbrev pub record_in : {R : Type 0} → Layout R → List ℕ → R
record_in k content = read_from k (drop 2 content)

-- a refusal of a field whose offer number was read
abbrev pub refused_number : {R : Type 0} → Layout R → Code → Cursor → ℕ → Refusal
refused_number k code cursor n =
    record { code = code; tag = k.tag; number = n; field = 0; byte = cursor.next_byte; depth = 0 }

-- for what is out of range of its content: 1 the status, from 2 on the record's fields
abbrev pub refused_value : {R : Type 0} → Layout R → Cursor → ℕ → (field : ℕ) → Refusal
refused_value k cursor n field =
    record { code = FieldOutside; tag = k.tag; number = n; field = field; byte = cursor.next_byte; depth = 0 }

-- The checks of a content in their order: offer number, rising order, status, the record's fields from the left, clash.
abbrev pub content_checks : {R : Type 0} → Layout R → List (Entry R) → Cursor → List ℕ → List Check
content_checks k es cursor content =
    check (numbered k es (number_in content)) (refused_number k NumberOutside cursor (number_in content))
    ∷ check (rises cursor k.tag (number_in content)) (refused_number k NotRising cursor (number_in content))
    ∷ check (within 1 2 (status_in content)) (refused_value k cursor (number_in content) 1)
    ∷ check (fault_of k (record_in k content) == 0) (refused_value k cursor (number_in content) (fault_of k (record_in k content)))
    ∷ check (agrees k (entry es (number_in content)) (record_in k content)) (refused_number k Clash cursor (number_in content))
    ∷ []

-- What a field answers, its offer number or a refusal, and what it leaves.
pub record Entering (A : Type 0) : Type 0 where
  pub answer : Result ℕ Refusal
  pub after : A

abbrev enter_checked : {R : Type 0} → Layout R → List (Entry R) → List ℕ → Option Refusal → Entering (List (Entry R))
enter_checked k es content (Some refusal) = record { answer = Err refusal; after = es }
enter_checked k es content None = record {
  answer = Ok (number_in content);
  after = slice_set es (number_in content - 1) (joined_entry (entry es (number_in content)) (withdrawn_in content) (record_in k content));
}

-- a content taken into the entries of its kind
abbrev pub enter_content : {R : Type 0} → Layout R → List (Entry R) → Cursor → List ℕ → Entering (List (Entry R))
enter_content k es cursor content = enter_checked k es content (first_failed (content_checks k es cursor content))
