-- The sheet of a round's entries.
use Rattle.offers.specs.Refusals.{code_only}
use Rattle.std.specs.Prelude.{ℕ, ◌+◌, List, [], ◌∷◌, ◌++◌, length, drop, Ok, Err, Result, nat_le, if◌then◌else◌}
use Rattle.offers.specs.declared.refusals.Code.TheVariants.{NoRoom}
use Rattle.offers.specs.declared.refusals.Refusal.{Refusal}
use Rattle.offers.specs.declared.registers.Entry.{Entry}
use Rattle.offers.specs.declared.registers.Entry.TheVariants.{Vacant, Open, Withdrawn}
use Rattle.offers.specs.declared.kinds.Kind.{Kind}
use Rattle.offers.specs.declared.kinds.Kind.TheVariants as kind
use Rattle.offers.specs.Fields.{high_first}
use Rattle.offers.specs.Layouts.{Layout, bytes_of}
use Rattle.offers.specs.Memory.{Entries, layout_of, entries_of}
use Rattle.sheets.specs.Fields.{content_size}

-- a field: tag, two length bytes, number, status, record
abbrev pub field_bytes : {R : Type 0} → Layout R → ℕ → ℕ → R → List ℕ
field_bytes k n status r = k.tag ∷ (high_first 2 (content_size k) ++ n ∷ status ∷ bytes_of k r)

-- the field of an entry; a vacant one has none
abbrev pub entry_bytes : {R : Type 0} → Layout R → ℕ → Entry R → List ℕ
entry_bytes k n Vacant = []
entry_bytes k n (Open r) = field_bytes k n 1 r
entry_bytes k n (Withdrawn r) = field_bytes k n 2 r

-- the fields of a register, the first entry having number n
abbrev pub register_bytes : {R : Type 0} → Layout R → ℕ → List (Entry R) → List ℕ
register_bytes k n [] = []
register_bytes k n (e ∷ es) = entry_bytes k n e ++ register_bytes k (n + 1) es

abbrev pub kind_bytes : Entries → Kind → List ℕ
kind_bytes all k = register_bytes (layout_of k) 1 (entries_of all k)

-- The sheet: the fields by rising tag, then rising number, each entry that is not vacant once.
abbrev pub sheet_of : Entries → List ℕ
sheet_of all =
    kind_bytes all kind.Package
    ++ (kind_bytes all kind.Band ++ (kind_bytes all kind.Pair ++ (kind_bytes all kind.Exclusion ++ kind_bytes all kind.Limit)))

-- What writing a sheet answers, its length or a refusal, and the buffer that it leaves.
pub record WrittenSheet : Type 0 where
  pub answer : Result ℕ Refusal
  pub buffer : List ℕ

-- The sheet fills the buffer's first bytes and leaves the rest; a buffer that is too short stays as it is.
abbrev pub write_sheet : Entries → List ℕ → WrittenSheet
write_sheet all buffer =
    if nat_le (length (sheet_of all)) (length buffer)
    then record { answer = Ok (length (sheet_of all)); buffer = sheet_of all ++ drop (length (sheet_of all)) buffer }
    else record { answer = Err (code_only NoRoom); buffer = buffer }
