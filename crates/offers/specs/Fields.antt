-- A record as a row of fields: its bytes, its first field out of range, its values read from bytes.
use Rattle.std.specs.Prelude.{ℕ, zero, suc, ◌+◌, ◌/◌, ◌%◌, ◌^◌, Bool, ◌&&◌, List, [], ◌∷◌, ◌++◌, take, drop, nat_le, if◌then◌else◌}
use Rattle.std.specs.Int.Digits.{number_from_digits}

-- One field of a record: its bytes on a sheet, its value, and whether that value is in range.
pub record Field (R : Type 0) : Type 0 where
  pub width : ℕ
  pub value : R → ℕ
  pub allowed : R → Bool

abbrev pub within : ℕ → ℕ → ℕ → Bool
within least most n = nat_le least n && nat_le n most

-- a field whose range does not depend on the other fields: bytes, value, least, greatest
abbrev pub plain : {R : Type 0} → ℕ → (R → ℕ) → ℕ → ℕ → Field R
plain width value least most =
    record { width = width; value = value; allowed = λ r. within least most (value r) }

-- a number as so many bytes, the high ones first
abbrev pub high_first : ℕ → ℕ → List ℕ
high_first zero n = []
high_first (suc k) n = (n / 256 ^ k) % 256 ∷ high_first k n

abbrev pub widths : {R : Type 0} → List (Field R) → ℕ
widths [] = 0
widths (f ∷ fs) = f.width + widths fs

-- the bytes of a record, field by field
abbrev pub bytes_by : {R : Type 0} → List (Field R) → R → List ℕ
bytes_by [] r = []
bytes_by (f ∷ fs) r = high_first f.width (f.value r) ++ bytes_by fs r

-- the values that stand in the bytes, field by field
abbrev pub values_by : {R : Type 0} → List (Field R) → List ℕ → List ℕ
values_by [] bs = []
values_by (f ∷ fs) bs = number_from_digits 256 (take f.width bs) ∷ values_by fs (drop f.width bs)

-- the first false one of a row, counted from n; 0 where all are true
abbrev pub first_false : ℕ → List Bool → ℕ
first_false n [] = 0
first_false n (b ∷ bs) = if b then first_false (n + 1) bs else n

-- for each field whether its value is in range
abbrev pub allowed_by : {R : Type 0} → List (Field R) → R → List Bool
allowed_by [] r = []
allowed_by (f ∷ fs) r = f.allowed r ∷ allowed_by fs r
