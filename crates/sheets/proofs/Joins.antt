-- Entries joined number by number with those of another round: where the two accord, and what comes of it.
use Rattle.std.proofs.Common.{◌≡◌, ℕ, zero, suc, Bool, true, false, List, [], ◌∷◌, length, get_or, refl, ap, inl, inr, arith}
use Rattle.std.specs.Str.{bytes_eq}
use Rattle.std.proofs.lemmas.Slice.Eq.{bytes_eq-Decides}
use Rattle.offers.specs.declared.registers.Entry.{Entry}
use Rattle.offers.specs.declared.registers.Entry.TheVariants.{Vacant, Open, Withdrawn}
use Rattle.offers.specs.Layouts.{Layout, LayoutLaws, bytes_of, fault_of}
use Rattle.offers.specs.Registers.{Onward, entry_fault, InRange}
use Rattle.sheets.specs.Fields.{agrees, joined_entry}
use Rattle.sheets.proofs.Again.{own-bytes}
use Rattle.sheets.proofs.Contents.{joined-in_range}
use Rattle.sheets.proofs.Further.{FurtherIn, further_same, onward-joined}

-- what becomes of an entry that is joined with another round's
abbrev pub merged : {R : Type 0} → Entry R → Entry R → Entry R
merged mine Vacant = mine
merged mine (Open r) = joined_entry mine false r
merged mine (Withdrawn r) = joined_entry mine true r

-- the two entries do not hold different records
abbrev pub accords : {R : Type 0} → Layout R → Entry R → Entry R → Bool
accords k mine Vacant = true
accords k mine (Open r) = agrees k mine r
accords k mine (Withdrawn r) = agrees k mine r

-- what becomes of a register, number by number
abbrev pub merged_all : {R : Type 0} → List (Entry R) → List (Entry R) → List (Entry R)
merged_all [] theirs = []
merged_all (m ∷ ms) [] = m ∷ ms
merged_all (m ∷ ms) (e ∷ es) = merged m e ∷ merged_all ms es

-- two registers accord at every number
abbrev pub Accord : {R : Type 0} → Layout R → List (Entry R) → List (Entry R) → Type 0
Accord k [] theirs = Unit {0}
Accord k (m ∷ ms) [] = Unit {0}
Accord k (m ∷ ms) (e ∷ es) = (accords k m e ≡ true) × Accord k ms es

-- no register grows by it
pub merged-long : {R : Type 0} (ms es : List (Entry R)) → length (merged_all ms es) ≡ length ms
merged-long [] es = refl
merged-long (m ∷ ms) [] = refl
merged-long (m ∷ ms) (e ∷ es) = ap suc (merged-long ms es)

-- an entry accords with one that has come further
further_accords : {R : Type 0} (k : Layout R) (e later : Entry R) → Onward e later → accords k e later ≡ true
further_accords k Vacant Vacant on = refl
further_accords k Vacant (Open r) on = refl
further_accords k Vacant (Withdrawn r) on = refl
further_accords k (Open r) later (inl is) = rw is (own-bytes k r)
further_accords k (Open r) later (inr is) = rw is (own-bytes k r)
further_accords k (Withdrawn r) later is = rw is (own-bytes k r)

-- and becomes it
further_merged : {R : Type 0} (e later : Entry R) → Onward e later → merged e later ≡ later
further_merged Vacant Vacant on = refl
further_merged Vacant (Open r) on = refl
further_merged Vacant (Withdrawn r) on = refl
further_merged (Open r) later (inl is) = rw is refl
further_merged (Open r) later (inr is) = rw is refl
further_merged (Withdrawn r) later is = rw is refl

-- what has come further, without its first entry
further_rest : {R : Type 0} (m e : Entry R) (ms es : List (Entry R)) → FurtherIn (m ∷ ms) (e ∷ es) → FurtherIn ms es
further_rest m e ms es h = record { onward = λ i. h.onward (suc i); as_long = omega (arith, h.as_long) }

-- so a register accords with one that has come further
pub further_accord : {R : Type 0} (k : Layout R) (ms es : List (Entry R)) → FurtherIn ms es → Accord k ms es
further_accord k [] es h = tt
further_accord k (m ∷ ms) [] h = tt
further_accord k (m ∷ ms) (e ∷ es) h = (further_accords k m e (h.onward 0), further_accord k ms es (further_rest m e ms es h))

-- and becomes it
pub further_becomes : {R : Type 0} (ms es : List (Entry R)) → FurtherIn ms es → merged_all ms es ≡ es
further_becomes [] [] h = refl
further_becomes [] (e ∷ es) h = absurd (omega (arith, h.as_long))
further_becomes (m ∷ ms) [] h = absurd (omega (arith, h.as_long))
further_becomes (m ∷ ms) (e ∷ es) h =
    let here = further_merged m e (h.onward 0) in
    let rest = further_becomes ms es (further_rest m e ms es h) in
    cc

-- joining goes no step back
merged-onward : {R : Type 0} (m e : Entry R) → Onward m (merged m e)
merged-onward Vacant Vacant = tt
merged-onward (Open r) Vacant = inl refl
merged-onward (Withdrawn r) Vacant = refl
merged-onward m (Open r) = onward-joined m false r
merged-onward m (Withdrawn r) = onward-joined m true r

-- one entry and then a register
further_cons : {R : Type 0} (m e : Entry R) (ms es : List (Entry R)) → Onward m e → FurtherIn ms es → FurtherIn (m ∷ ms) (e ∷ es)
further_cons m e ms es on h = record { onward = each; as_long = ap suc h.as_long }
  where
    each : (i : ℕ) → Onward (get_or (m ∷ ms) i Vacant) (get_or (e ∷ es) i Vacant)
    each zero = on
    each (suc i) = h.onward i

-- so what a register becomes has come further than it
pub merged_further : {R : Type 0} (ms es : List (Entry R)) → FurtherIn ms (merged_all ms es)
merged_further [] es = further_same []
merged_further (m ∷ ms) [] = further_same (m ∷ ms)
merged_further (m ∷ ms) (e ∷ es) = further_cons m (merged m e) ms (merged_all ms es) (merged-onward m e) (merged_further ms es)

-- records in range stay in range
merged-in_range : {R : Type 0} (k : Layout R) (m e : Entry R) → entry_fault k m ≡ 0 → entry_fault k e ≡ 0 → entry_fault k (merged m e) ≡ 0
merged-in_range k m Vacant mine theirs = mine
merged-in_range k m (Open r) mine theirs = joined-in_range k m false r mine theirs
merged-in_range k m (Withdrawn r) mine theirs = joined-in_range k m true r mine theirs

-- so do those of a register
pub merged-ranged : {R : Type 0} (k : Layout R) (ms es : List (Entry R)) → InRange k ms → InRange k es → InRange k (merged_all ms es)
merged-ranged k [] es mine theirs i = mine i
merged-ranged k (m ∷ ms) [] mine theirs i = mine i
merged-ranged k (m ∷ ms) (e ∷ es) mine theirs zero = merged-in_range k m e (mine 0) (theirs 0)
merged-ranged k (m ∷ ms) (e ∷ es) mine theirs (suc i) = merged-ranged k ms es (λ j. mine (suc j)) (λ j. theirs (suc j)) i

module _ {R : Type 0} (k : Layout R) (law : LayoutLaws k) where
  -- records in range with the same bytes are the same
  same_record : (r s : R) → fault_of k r ≡ 0 → fault_of k s ≡ 0 → bytes_eq (bytes_of k r) (bytes_of k s) ≡ true → r ≡ s
  same_record r s fine good same = law.apart r s fine good ((bytes_eq-Decides (bytes_of k r) (bytes_of k s)).0 same)

  -- so two entries that accord become the same, whichever is joined with the other
  merged_either : (m e : Entry R) → entry_fault k m ≡ 0 → entry_fault k e ≡ 0 → accords k m e ≡ true → merged m e ≡ merged e m
  merged_either Vacant Vacant mine theirs same = refl
  merged_either Vacant (Open s) mine theirs same = refl
  merged_either Vacant (Withdrawn s) mine theirs same = refl
  merged_either (Open r) Vacant mine theirs same = refl
  merged_either (Open r) (Open s) mine theirs same = ap Open (same_record r s mine theirs same)
  merged_either (Open r) (Withdrawn s) mine theirs same = ap Withdrawn (same_record r s mine theirs same)
  merged_either (Withdrawn r) Vacant mine theirs same = refl
  merged_either (Withdrawn r) (Open s) mine theirs same = ap Withdrawn (same_record r s mine theirs same)
  merged_either (Withdrawn r) (Withdrawn s) mine theirs same = ap Withdrawn (same_record r s mine theirs same)

  -- and so do two registers
  pub merged_swap : (ms es : List (Entry R)) → length ms ≡ length es → InRange k ms → InRange k es → Accord k ms es → merged_all ms es ≡ merged_all es ms
  merged_swap [] [] long mine theirs same = refl
  merged_swap [] (e ∷ es) long mine theirs same = absurd (omega arith)
  merged_swap (m ∷ ms) [] long mine theirs same = absurd (omega arith)
  merged_swap (m ∷ ms) (e ∷ es) long mine theirs same =
      let here = merged_either m e (mine 0) (theirs 0) same.0 in
      let rest = merged_swap ms es (omega arith) (λ i. mine (suc i)) (λ i. theirs (suc i)) same.1 in
      cc
