-- What every catch-up keeps, of any entries and any bytes.
use Rattle.std.proofs.Common.{◌≡◌, ℕ, List, length, get_or, Ok, Err, Result, sym, refl, ◌∙◌}
use Rattle.offers.specs.declared.refusals.Refusal.{Refusal}
use Rattle.offers.specs.declared.registers.Entry.TheVariants.{Vacant}
use Rattle.offers.specs.Memory.{Entries, entries_of}
use Rattle.offers.proofs.RegisterLaws.{onward-same}
use Rattle.sheets.specs.Laws.{CaughtUp}
use Rattle.sheets.specs.Reading.{start_cursor, catch_up, catching_up}
use Rattle.sheets.proofs.Again.{catch_again}
use Rattle.sheets.proofs.Checks.{fair_carries}
use Rattle.sheets.proofs.Further.{further_same, catch_further}
use Rattle.sheets.proofs.Headers.{never_both}
use Rattle.sheets.proofs.Steps.{catch_fair}
use Rattle.sheets.proofs.Withdrawals.{catch_withdrawn}

-- a sheet that is accepted, by what its fields do one by one
accepted_caught : (before : Entries) (bs : List ℕ) (after : Entries) → catch_up before bs ≡ Ok after → CaughtUp before bs (Ok tt) after
accepted_caught before bs after e = record {
  unchanged = λ r f. absurd (never_both r tt (sym f));
  carries = λ r f. absurd (never_both r tt (sym f));
  onward = λ k. (catch_further (length bs) before start_cursor bs after e k).onward;
  withdrawn = λ _. catch_withdrawn (length bs) before start_cursor bs after e;
  once = λ _. catch_again (length bs) before start_cursor bs after e after (λ k. further_same (entries_of after k));
}

-- a sheet that is refused leaves all as it was
refused_caught : (before : Entries) (bs : List ℕ) (said : Refusal) → catch_up before bs ≡ Err said → CaughtUp before bs (Err said) before
refused_caught before bs said e = record {
  unchanged = λ _ _. refl;
  carries = λ r f. fair_carries r (catch_fair (length bs) before start_cursor bs) (e ∙ err_up said r f);
  onward = λ k i. onward-same (get_or (entries_of before k) i Vacant);
  withdrawn = λ f. absurd (never_both said tt f);
  once = λ f. absurd (never_both said tt f);
}
  where
    err_up : (said r : Refusal) → ◌≡◌ {A = Result Unit Refusal} (Err said) (Err r) → ◌≡◌ {A = Result Entries Refusal} (Err said) (Err r)
    err_up said r f = cc

-- the same of an answer and entries that are those
caught_as : (before : Entries) (bs : List ℕ) (answer said : Result Unit Refusal) (after left : Entries) → answer ≡ said → after ≡ left → CaughtUp before bs said left → CaughtUp before bs answer after
caught_as before bs answer said after left e f h = rw (e, f) h

-- every catch-up is one or the other
pub caught_up : (before : Entries) (bs : List ℕ) → CaughtUp before bs (catching_up before bs).answer (catching_up before bs).after
caught_up before bs = by (catch_up before bs) refl
  where
    by : (r : Result Entries Refusal) → catch_up before bs ≡ r → CaughtUp before bs (catching_up before bs).answer (catching_up before bs).after
    by (Ok after) e = caught_as before bs _ (Ok tt) _ after (rw e refl) (rw e refl) (accepted_caught before bs after e)
    by (Err said) e = caught_as before bs _ (Err said) _ before (rw e refl) (rw e refl) (refused_caught before bs said e)

-- so an answer and entries that are those of a catch-up keep it
pub caught_since : (before : Entries) (bs : List ℕ) (answer : Result Unit Refusal) (after : Entries) → answer ≡ (catching_up before bs).answer → after ≡ (catching_up before bs).after → CaughtUp before bs answer after
caught_since before bs answer after e f = caught_as before bs answer _ after _ e f (caught_up before bs)
