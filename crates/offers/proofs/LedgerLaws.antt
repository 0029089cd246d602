-- A ledger lends its entries to a call on one number, and what comes back is a ledger's again, of any kind.
use Rattle.std.proofs.Common.{◌≡◌, ℕ, List, length, sym, subst, ◌∙◌}
use Rattle.offers.specs.declared.registers.Entry.{Entry}
use Rattle.offers.specs.Layouts.{Layout}
use Rattle.offers.specs.Registers.{Outcome, filing, withdrawing, InRange, IsLedger}
use Rattle.offers.proofs.RegisterLaws.{Moves, filing_moved, withdrawing_moved, filing-in_range, withdrawing-in_range}

-- as many entries in range are a ledger's too
pub still-is_ledger : {R : Type 0} {k : Layout R} {size : ℕ} {es after : List (Entry R)} → IsLedger k size es → length after ≡ length es → InRange k after → IsLedger k size after
still-is_ledger held long ok = record { whole = long ∙ held.whole; numbered = long ∙ held.numbered; in_range = ok }

module _ {R : Type 0} {k : Layout R} {size : ℕ} {es : List (Entry R)} (held : IsLedger k size es) (n : ℕ) {after : List (Entry R)} where
  moved-is_ledger : (o : Outcome (List (Entry R))) → Moves es n o → InRange k o.after → after ≡ o.after → IsLedger k size after
  moved-is_ledger o moved ok e =
      subst (IsLedger k size) (sym e) (still-is_ledger held moved.as_long ok)

  pub filing-is_ledger : (r : R) → after ≡ (filing k es n r).after → IsLedger k size after
  filing-is_ledger r = moved-is_ledger (filing k es n r) (filing_moved k es n r) (filing-in_range k es n held.in_range r)

  pub withdrawing-is_ledger : after ≡ (withdrawing k es n).after → IsLedger k size after
  withdrawing-is_ledger = moved-is_ledger (withdrawing k es n) (withdrawing_moved k es n) (withdrawing-in_range k es n held.in_range)
