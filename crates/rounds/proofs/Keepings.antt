-- What every call of the plain round keeps: no entry goes back, and a call that is not accepted alters nothing.
use Rattle.std.proofs.Common.{◌≡◌, ℕ, true, List, [], ◌∷◌, length, get_or, leb, not, ℤ, Some, None, Ok, Err, Result, sym, refl, ap, ◌∙◌, subst}
use Rattle.std.proofs.lemmas.Bool.{cond_both, true≢false}
use Rattle.std.proofs.lemmas.Option.{none-some}
use Rattle.offers.specs.declared.records.Package.{Package}
use Rattle.offers.specs.declared.refusals.Code.TheVariants.{NoRoom, StepsOutside, RateOutside}
use Rattle.offers.specs.declared.refusals.Refusal.{Refusal}
use Rattle.offers.specs.Fields.{within}
use Rattle.offers.specs.declared.kinds.Kind.{Kind}
use Rattle.offers.specs.declared.registers.Entry.TheVariants.{Vacant}
use Rattle.offers.specs.Memory.{Entries, entries_of, file_offer, withdraw_offer}
use Rattle.offers.specs.Refusals.{Carries, code_only}
use Rattle.offers.specs.Registers.{Onward}
use Rattle.offers.proofs.RegisterLaws.{onward-same}
use Rattle.offers.proofs.MemoryLaws.{file_kept, withdraw_kept}
use Rattle.sheets.specs.Reading.{catching_up}
use Rattle.sheets.specs.Writing.{WrittenSheet, sheet_of}
use Rattle.sheets.proofs.CatchUps.{caught_up}
use Rattle.clearing.specs.declared.dockets.PricedPackage.{PricedPackage}
use Rattle.pricing.specs.declared.rules.Fault.{Fault}
use Rattle.clearing.specs.Bands.{Numbered}
use Rattle.clearing.specs.Closing.{open_from, priced, priced_as, no_price, closed_with}
use Rattle.pricing.specs.Prices.{Meaning}
use Rattle.clearing.specs.Lawful.{View, nothing_open}
use Rattle.fees.specs.declared.rates.FeeRates.{FeeRates}
use Rattle.fees.specs.Charges.{Charge}
use Rattle.fees.specs.Fees.{rates_in_range}
use Rattle.search.specs.Search.{Standing}
use Rattle.rounds.specs.Model.{Call, File, Withdraw, CatchUp, Close, Search, Reopen, ReadAward, ReadFees, WriteSheet, Done, Reopened, Charged, Written, NotTaken, State, IsOpen, IsClosed, IsAwarded, PlainRound, plain_round, Stepped, accepted, told, closed, written, step_in, step}
use Rattle.rounds.specs.Promises.{Keeps, refusal_in, lent_with, lent_back}

-- no entry goes back, and no record changes
abbrev pub GoesOn : Entries → Entries → Type 0
GoesOn before after = (k : Kind) (i : ℕ) → Onward (get_or (entries_of before k) i Vacant) (get_or (entries_of after k) i Vacant)

still : (all : Entries) → GoesOn all all
still all k i = onward-same (get_or (entries_of all k) i Vacant)

-- an accepted call owes nothing more
accepted_keeps : (m : PlainRound) (call : Call) (s : Stepped) → GoesOn m.entries s.after.entries → accepted s.answer ≡ true → refusal_in s.answer ≡ None → Keeps m call s
accepted_keeps m call s on taken none = record {
  onward = on;
  unchanged = λ no. absurd (true≢false (sym taken ∙ no));
  lent = λ e some. absurd (none-some e (sym none ∙ some));
  carries = λ e some. absurd (none-some e (sym none ∙ some));
}

-- a call that the state does not take leaves the round
not_taken : (all : Entries) (s : State) (call : Call) → Keeps (plain_round all s) call (told all s NotTaken)
not_taken all s call = record {
  onward = still all;
  unchanged = λ no. refl;
  lent = λ e some. absurd (none-some e some);
  carries = λ e some. absurd (none-some e some);
}

-- a refusal that leaves round and loan, and carries what its code does
refused_keeps : (m : PlainRound) (call : Call) (s : Stepped) (why : Refusal) → s.after ≡ m → refusal_in s.answer ≡ Some why → lent_back s.answer ≡ lent_with call → Carries why → Keeps m call s
refused_keeps m call s why same is back carried = record {
  onward = subst (λ (left : PlainRound). GoesOn m.entries left.entries) (sym same) (still m.entries);
  unchanged = λ no. same;
  lent = λ e some. back;
  carries = λ e some. let one : why ≡ e = cc in subst Carries one carried;
}

-- filing, withdrawing and catching up
entered_keeps : (all left : Entries) (call : Call) (r : Result Unit Refusal) → lent_with call ≡ [] → GoesOn all left
    → ((e : Refusal) → r ≡ Err e → left ≡ all) → ((e : Refusal) → r ≡ Err e → Carries e)
    → Keeps (plain_round all IsOpen) call (record { after = plain_round left IsOpen; answer = Done r })
entered_keeps all left call (Ok done) none on same carries = accepted_keeps _ call _ on refl refl
entered_keeps all left call (Err why) none on same carries =
    refused_keeps _ call _ why (ap (λ (es : Entries). plain_round es IsOpen) (same why refl)) refl (sym none) (carries why refl)

-- a package without a price: its tag, its number and the depth of the rule
priced_carries : (price : Meaning) (ps : List (Numbered Package)) (why : Refusal) → priced price ps ≡ Err why → Carries why
priced_carries price [] why e = absurd (no_refusal e)
  where
    no_refusal : ◌≡◌ {A = Result (List PricedPackage) Refusal} (Ok []) (Err why) → ⊥
    no_refusal e = cc
priced_carries price (p ∷ ps) why e = by (price p.terms) (priced price ps) (priced_carries price ps why) e
  where
    by : (answer : Result ℤ Fault) (rest : Result (List PricedPackage) Refusal) → (rest ≡ Err why → Carries why) → priced_as p answer rest ≡ Err why → Carries why
    by (Ok one) (Ok others) on e = absurd (let no : ⊥ = cc in no)
    by (Ok one) (Err other) on e = on (let same : other ≡ why = cc in ap Err same)
    by (Err fault) rest on e =
        let same : no_price p.number fault ≡ why = cc in
        subst Carries same (record { tag = tt; number = tt; field = refl; byte = refl; depth = tt })

-- closing
closed_keeps : (all : Entries) (price : Meaning) (r : Result (List PricedPackage) Refusal) → priced price (open_from 1 all.packages) ≡ r
    → Keeps (plain_round all IsOpen) (Close price) (closed all (closed_with nothing_open all r))
closed_keeps all price (Ok ps) e = accepted_keeps _ (Close price) _ (still all) refl refl
closed_keeps all price (Err why) e = refused_keeps _ (Close price) _ why refl refl refl (priced_carries price (open_from 1 all.packages) why e)

-- a refusal with nothing but its code
bare : (s : Stepped) (m : PlainRound) (call : Call) → s.after ≡ m → refusal_in s.answer ≡ Some (code_only NoRoom) → lent_back s.answer ≡ lent_with call → Keeps m call s
bare s m call same is lent = refused_keeps m call s (code_only NoRoom) same is lent (record { tag = refl; number = refl; field = refl; byte = refl; depth = refl })

searched_keeps : (all : Entries) (v : View) (at : Standing) (rule : _) (count : ℕ) → Keeps (plain_round all (IsClosed v at)) (Search rule count) (step_in all (IsClosed v at) (Search rule count))
searched_keeps all v at rule count =
    cond_both (within 1 1000000 count) _ _ (Keeps (plain_round all (IsClosed v at)) (Search rule count))
    (λ _. accepted_keeps _ (Search rule count) _ (still all) refl refl)
    (λ _. refused_keeps _ (Search rule count) _ (code_only StepsOutside) refl refl refl (record { tag = refl; number = refl; field = refl; byte = refl; depth = refl }))

awarded_keeps : (all : Entries) (v : View) (at : Standing) (lent : List ℕ) → Keeps (plain_round all (IsAwarded v at)) (ReadAward lent) (step_in all (IsAwarded v at) (ReadAward lent))
awarded_keeps all v at lent =
    cond_both (leb 64 (length lent)) _ _ (λ answer. Keeps (plain_round all (IsAwarded v at)) (ReadAward lent) (told all (IsAwarded v at) answer))
    (λ _. accepted_keeps _ (ReadAward lent) _ (still all) refl refl)
    (λ _. bare _ _ (ReadAward lent) refl refl refl)

charged_keeps : (all : Entries) (v : View) (at : Standing) (rates : FeeRates) (lent : List ℕ)
    → Keeps (plain_round all (IsAwarded v at)) (ReadFees rates lent) (step_in all (IsAwarded v at) (ReadFees rates lent))
charged_keeps all v at rates lent =
    cond_both (not (rates_in_range rates)) _ _ kept
    (λ _. refused_keeps _ (ReadFees rates lent) _ (code_only RateOutside) refl refl refl (record { tag = refl; number = refl; field = refl; byte = refl; depth = refl }))
    (λ _. cond_both (not (leb 16 (length lent))) _ _ kept
    (λ _. bare _ _ (ReadFees rates lent) refl refl refl)
    (λ _. accepted_keeps _ (ReadFees rates lent) _ (still all) refl refl))
  where
    kept : Charge → Type 0
    kept c = Keeps (plain_round all (IsAwarded v at)) (ReadFees rates lent) (told all (IsAwarded v at) (Charged c.answer c.row))

written_keeps : (all : Entries) (s : State) (buffer : List ℕ) → Keeps (plain_round all s) (WriteSheet buffer) (told all s (written all buffer))
written_keeps all s buffer =
    cond_both (leb (length (sheet_of all)) (length buffer)) _ _ (λ (w : WrittenSheet). Keeps (plain_round all s) (WriteSheet buffer) (told all s (Written w.answer w.buffer)))
    (λ _. accepted_keeps _ (WriteSheet buffer) _ (still all) refl refl)
    (λ _. bare _ _ (WriteSheet buffer) refl refl refl)

-- whatever the state
keeps_in : (all : Entries) (s : State) (call : Call) → Keeps (plain_round all s) call (step_in all s call)
keeps_in all IsOpen (File n x) = let k = file_kept all n x in entered_keeps all (file_offer all n x).after (File n x) (file_offer all n x).answer refl k.onward k.unchanged k.carries
keeps_in all IsOpen (Withdraw kind n) = let k = withdraw_kept all kind n in entered_keeps all (withdraw_offer all kind n).after (Withdraw kind n) (withdraw_offer all kind n).answer refl k.onward k.unchanged k.carries
keeps_in all IsOpen (CatchUp sheet) = let k = caught_up all sheet in entered_keeps all (catching_up all sheet).after (CatchUp sheet) (catching_up all sheet).answer refl k.onward k.unchanged k.carries
keeps_in all IsOpen (Close price) = closed_keeps all price (priced price (open_from 1 all.packages)) refl
keeps_in all IsOpen (Search rule count) = not_taken all IsOpen (Search rule count)
keeps_in all IsOpen Reopen = not_taken all IsOpen Reopen
keeps_in all IsOpen (ReadAward lent) = not_taken all IsOpen (ReadAward lent)
keeps_in all IsOpen (ReadFees rates lent) = not_taken all IsOpen (ReadFees rates lent)
keeps_in all IsOpen (WriteSheet buffer) = written_keeps all IsOpen buffer
keeps_in all (IsClosed v at) (File n x) = not_taken all (IsClosed v at) (File n x)
keeps_in all (IsClosed v at) (Withdraw kind n) = not_taken all (IsClosed v at) (Withdraw kind n)
keeps_in all (IsClosed v at) (CatchUp sheet) = not_taken all (IsClosed v at) (CatchUp sheet)
keeps_in all (IsClosed v at) (Close price) = not_taken all (IsClosed v at) (Close price)
keeps_in all (IsClosed v at) (Search rule count) = searched_keeps all v at rule count
keeps_in all (IsClosed v at) Reopen = accepted_keeps (plain_round all (IsClosed v at)) Reopen (told all IsOpen Reopened) (still all) refl refl
keeps_in all (IsClosed v at) (ReadAward lent) = not_taken all (IsClosed v at) (ReadAward lent)
keeps_in all (IsClosed v at) (ReadFees rates lent) = not_taken all (IsClosed v at) (ReadFees rates lent)
keeps_in all (IsClosed v at) (WriteSheet buffer) = written_keeps all (IsClosed v at) buffer
keeps_in all (IsAwarded v at) (File n x) = not_taken all (IsAwarded v at) (File n x)
keeps_in all (IsAwarded v at) (Withdraw kind n) = not_taken all (IsAwarded v at) (Withdraw kind n)
keeps_in all (IsAwarded v at) (CatchUp sheet) = not_taken all (IsAwarded v at) (CatchUp sheet)
keeps_in all (IsAwarded v at) (Close price) = not_taken all (IsAwarded v at) (Close price)
keeps_in all (IsAwarded v at) (Search rule count) = not_taken all (IsAwarded v at) (Search rule count)
keeps_in all (IsAwarded v at) Reopen = accepted_keeps (plain_round all (IsAwarded v at)) Reopen (told all IsOpen Reopened) (still all) refl refl
keeps_in all (IsAwarded v at) (ReadAward lent) = awarded_keeps all v at lent
keeps_in all (IsAwarded v at) (ReadFees rates lent) = charged_keeps all v at rates lent
keeps_in all (IsAwarded v at) (WriteSheet buffer) = written_keeps all (IsAwarded v at) buffer

-- The step of the plain round keeps it all.
pub keeps_step : (m : PlainRound) (call : Call) → Keeps m call (step m call)
keeps_step m call = keeps_in m.entries m.state call
