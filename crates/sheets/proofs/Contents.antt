-- What stands under a number that is found, and what is joined, is in range, for any kind.
use Rattle.std.proofs.Common.{◌≡◌, ℕ, ◌-◌, ◌<◌, Bool, true, false, List, length, get_or, Some, ap, ◌∙◌, arith}
use Rattle.std.proofs.lemmas.List.{get_or_read}
use Rattle.offers.specs.declared.registers.Entry.{Entry}
use Rattle.offers.specs.declared.registers.Entry.TheVariants.{Vacant, Open, Withdrawn}
use Rattle.offers.specs.Layouts.{Layout, fault_of}
use Rattle.offers.specs.Registers.{entry, place, entry_fault, InRange}
use Rattle.offers.proofs.RegisterLaws.{inside, found}
use Rattle.sheets.specs.Fields.{joined_entry}

-- what is joined from records in range is in range
pub joined-in_range : {R : Type 0} (k : Layout R) (e : Entry R) (withdrawn : Bool) (r : R) → entry_fault k e ≡ 0 → fault_of k r ≡ 0 → entry_fault k (joined_entry e withdrawn r) ≡ 0
joined-in_range k Vacant true r ok fine = fine
joined-in_range k Vacant false r ok fine = fine
joined-in_range k (Open mine) true r ok fine = ok
joined-in_range k (Open mine) false r ok fine = ok
joined-in_range k (Withdrawn mine) withdrawn r ok fine = ok

module _ {R : Type 0} (k : Layout R) (es : List (Entry R)) (n at : ℕ) (here : place k es n ≡ Some at) (e : Entry R) (is : e ≡ get_or es at e) where
  -- a place that is found lies in the register
  pub placed : at < length es
  placed = let p = found k es n at here in omega (arith, inside k es n p.0, p.1)

  -- what is read at it is the number's entry
  pub entry_read : e ≡ entry es n
  entry_read = get_or_read es at e placed is Vacant ∙ ap (λ i. get_or es i Vacant) (found k es n at here).1

  -- and it is in range where all are
  pub entry-in_range : InRange k es → entry_fault k e ≡ 0
  entry-in_range ok = rw entry_read (ok (n - 1))
