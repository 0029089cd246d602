-- The docket of a sheet is that of the closing which follows catching up with it.
use Rattle.std.proofs.Common.{◌≡◌, ℕ, zero, suc, List, [], ◌∷◌, ◌++◌, replicate, Some, None, Ok, Err, Result, refl, ap, ◌∙◌, subst}
use Rattle.offers.specs.declared.refusals.Refusal.{Refusal}
use Rattle.offers.specs.Memory.{Entries, all_vacant}
use Rattle.offers.specs.Registers.{Outcome}
use Rattle.sheets.specs.Reading.{catch_up, catching_up, and_then}
use Rattle.pricing.specs.Prices.{filed_price, Meaning}
use Rattle.clearing.specs.Closing.{closing}
use Rattle.clearing.specs.Lawful.{View, nothing_open}
use Rattle.rounds.specs.Model.{Call, CatchUp, Close, Search, Done, open_and_vacant, after}
use Rattle.rounds.specs.Promises.{LastClosing, refusal_in}
use Rattle.reports.specs.Answering.{closed_docket, filed_docket, sheet_docket}
use Rattle.reports.specs.Cleared.{sheet_calls, first_of, NotCleared}

-- a catch-up that answers so left what it read, or had this to refuse
taken_in : (all : Entries) (sheet : List ℕ) → (catching_up all sheet).answer ≡ Ok tt → catch_up all sheet ≡ Ok (catching_up all sheet).after
taken_in all sheet = by (catch_up all sheet) refl
  where
    by : (r : Result Entries Refusal) → catch_up all sheet ≡ r → (catching_up all sheet).answer ≡ Ok tt → catch_up all sheet ≡ Ok (catching_up all sheet).after
    by (Ok left) is done = rw is refl
    by (Err why) is done = let no : Err why ≡ Ok tt = rw is at done in absurd (cc)

not_taken_in : (all : Entries) (sheet : List ℕ) (why : Refusal) → (catching_up all sheet).answer ≡ Err why → catch_up all sheet ≡ Err why
not_taken_in all sheet why = by (catch_up all sheet) refl
  where
    by : (r : Result Entries Refusal) → catch_up all sheet ≡ r → (catching_up all sheet).answer ≡ Err why → catch_up all sheet ≡ Err why
    by (Ok left) is done = let no : Ok tt ≡ Err why = rw is at done in absurd (cc)
    by (Err other) is done = let same : Err other ≡ Err why = rw is at done in rw is cc

-- no call is both a search and a closing
no_closing : (n : ℕ) (rule : _) (steps : ℕ) (before later : List Call) (price : Meaning) → replicate n (Search rule steps) ≡ before ++ Close price ∷ later → ⊥
no_closing zero rule steps [] later price e = cc
no_closing zero rule steps (call ∷ before) later price e = cc
no_closing (suc n) rule steps [] later price e = cc
no_closing (suc n) rule steps (call ∷ before) later price e = no_closing n rule steps before later price (cc)

-- So of a sheet's calls and searches after them the last closing is the second call.
pub closing_of : (sheet : List ℕ) (n : ℕ) (rule : _) (steps : ℕ) (docket : View) → LastClosing (sheet_calls sheet ++ replicate n (Search rule steps)) docket
    → closing nothing_open (catching_up all_vacant sheet).after filed_price ≡ record { answer = Ok tt; after = docket }
closing_of sheet n rule steps docket last = by last.before last.later last.price last.so last.made
  where
    by : (before later : List Call) (price : Meaning) → CatchUp sheet ∷ Close filed_price ∷ replicate n (Search rule steps) ≡ before ++ Close price ∷ later
        → closing nothing_open (after before).entries price ≡ record { answer = Ok tt; after = docket }
        → closing nothing_open (catching_up all_vacant sheet).after filed_price ≡ record { answer = Ok tt; after = docket }
    by [] later price so made = absurd (cc)
    by (call ∷ []) later price so made =
        let first : call ≡ CatchUp sheet = cc in
        let second : price ≡ filed_price = cc in
        subst (λ (p : Meaning). closing nothing_open (catching_up all_vacant sheet).after p ≡ record { answer = Ok tt; after = docket }) second
        (subst (λ (c : Call). closing nothing_open (after (c ∷ [])).entries price ≡ record { answer = Ok tt; after = docket }) first made)
    by (call ∷ other ∷ before) later price so made = absurd (no_closing n rule steps before later price (cc))

-- a sheet that is taken in, and whose offers close, has their docket
pub docket_of : (sheet : List ℕ) (docket : View) → (catching_up all_vacant sheet).answer ≡ Ok tt
    → closing nothing_open (catching_up all_vacant sheet).after filed_price ≡ record { answer = Ok tt; after = docket } → sheet_docket sheet ≡ Ok docket
docket_of sheet docket done made =
    ap (λ (r : Result Entries Refusal). and_then r filed_docket) (taken_in all_vacant sheet done)
    ∙ ap (λ (o : Outcome View). closed_docket o.answer o.after) made

-- a sheet of which a call is refused has none, for the first refusal
pub refused_of : (sheet : List ℕ) (why : Refusal) → NotCleared open_and_vacant sheet why → sheet_docket sheet ≡ Err why
refused_of sheet why refused = by (catching_up all_vacant sheet).answer refl (closing nothing_open (catching_up all_vacant sheet).after filed_price).answer refl refused
  where
    by : (a : Result Unit Refusal) → (catching_up all_vacant sheet).answer ≡ a → (b : Result Unit Refusal) → (closing nothing_open (catching_up all_vacant sheet).after filed_price).answer ≡ b
        → first_of (refusal_in (Done a)) (first_of (refusal_in (Done b)) None) ≡ Some why → sheet_docket sheet ≡ Err why
    by (Err e) first b second refused =
        let same : e ≡ why = cc in
        ap (λ (r : Result Entries Refusal). and_then r filed_docket) (not_taken_in all_vacant sheet e first) ∙ ap (λ (x : Refusal). Err x) same
    by (Ok done) first (Err e) second refused =
        let same : e ≡ why = cc in
        ap (λ (r : Result Entries Refusal). and_then r filed_docket) (taken_in all_vacant sheet first)
        ∙ ap (λ (b : Result Unit Refusal). closed_docket b (closing nothing_open (catching_up all_vacant sheet).after filed_price).after) second
        ∙ ap (λ (x : Refusal). Err x) same
    by (Ok done) first (Ok also) second refused = absurd (cc)
