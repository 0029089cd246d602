-- What a kind of record is: its tag, its count of offer numbers and its fields; and the laws that it owes.
use Rattle.std.specs.Prelude.{◌≡◌, ℕ, zero, suc, List, length, Option, Some, None}
use Rattle.offers.specs.Fields.{Field, widths, bytes_by, values_by, allowed_by, first_false}

pub record Layout (R : Type 0) : Type 0 where
  pub tag : ℕ
  -- its offer numbers are 1 to count
  pub count : ℕ
  -- the fields from the left
  pub fields : List (Field R)
  -- the record that has these values in its fields
  pub record_of : List ℕ → R

-- the length of a record in bytes
abbrev pub size_of : {R : Type 0} → Layout R → ℕ
size_of k = widths k.fields

abbrev pub bytes_of : {R : Type 0} → Layout R → R → List ℕ
bytes_of k r = bytes_by k.fields r

-- the record that stands in the bytes
abbrev pub read_from : {R : Type 0} → Layout R → List ℕ → R
read_from k bs = k.record_of (values_by k.fields bs)

-- the first field out of range, 0 where there is none; field 1 is an entry's status, so a record's first is 2
abbrev pub fault_of : {R : Type 0} → Layout R → R → ℕ
fault_of k r = first_false 2 (allowed_by k.fields r)

-- a field's number where there is one, none for 0
abbrev pub numbered_field : ℕ → Option ℕ
numbered_field zero = None
numbered_field (suc n) = Some (suc n)

-- what every kind owes
pub record LayoutLaws {R : Type 0} (k : Layout R) : Type 0 where
  -- a record's bytes have the kind's length
  pub sized : (r : R) → length (bytes_of k r) ≡ size_of k
  -- the bytes of a record in range read back to it
  pub reads_back : (r : R) → fault_of k r ≡ 0 → read_from k (bytes_of k r) ≡ r
  -- two records in range with equal bytes are equal
  pub apart : (r s : R) → fault_of k r ≡ 0 → fault_of k s ≡ 0 → bytes_of k r ≡ bytes_of k s → r ≡ s
