-- The promise of every run: what holds after each call, and what comes of it.
use Rattle.std.proofs.Common.{◌≡◌, ℕ, zero, suc, ◌+◌, ◌-◌, ◌≤◌, Bool, true, false, cond, ◌&&◌, ◌||◌, List, [], ◌∷◌, ◌++◌, length, get_or, Ok, Err, Result, is_ok, sym, refl, ap, ◌∙◌, subst, ⊎_elim, append_assoc, append-nil, add-one, arith}
use Rattle.std.proofs.lemmas.Grind.{get_or-set_at}
use Rattle.std.specs.List.{AllByRecursion as Every}
use Rattle.std.proofs.lemmas.Bool.{cond_both, eqb-true, and_parts, or_cases, true≢false}
use Rattle.offers.specs.declared.kinds.Kind.{Kind}
use Rattle.offers.specs.declared.kinds.Kind.TheVariants as kind
use Rattle.offers.specs.declared.memory.Offer.{Offer}
use Rattle.offers.specs.declared.records.Package.{Package}
use Rattle.offers.specs.declared.refusals.Refusal.{Refusal}
use Rattle.offers.specs.declared.registers.Entry.{Entry}
use Rattle.offers.specs.declared.registers.Entry.TheVariants.{Vacant, Open, Withdrawn}
use Rattle.offers.specs.Fields.{within}
use Rattle.offers.specs.Layouts.{Layout}
use Rattle.offers.specs.Memory.{Entries, Sound, layout_of, file_offer, withdraw_offer}
use Rattle.offers.specs.Registers.{Outcome, Onward, entry, numbered, withdrawing, withdraw_over}
use Rattle.offers.proofs.MemoryLaws.{file_kept, withdraw_kept}
use Rattle.offers.proofs.RegisterLaws.{inside}
use Rattle.pricing.specs.Prices.{Bounded, Meaning}
use Rattle.sheets.specs.Laws.{is_withdrawn, withdrawn_at}
use Rattle.sheets.specs.Reading.{catching_up}
use Rattle.sheets.proofs.CatchUps.{caught_up}
use Rattle.clearing.specs.declared.dockets.PricedPackage.{PricedPackage}
use Rattle.clearing.specs.Choices.{has_number}
use Rattle.clearing.specs.Closing.{open_from, priced, docket_with, closing, ByClosing}
use Rattle.clearing.specs.Lawful.{View, nothing_open, choices}
use Rattle.clearing.proofs.ClosedRanges.{ranged-closing}
use Rattle.bounds.specs.Blocks.{SoundRule}
use Rattle.search.specs.Search.{Standing, Placed, Leading, Leads, finished, after_steps}
use Rattle.search.proofs.Placings.{start-placed}
use Rattle.search.proofs.Leadings.{start-leads}
use Rattle.rounds.specs.Model.{NotTaken, Reopened, told, award, charged, written, Call, File, Withdraw, CatchUp, Close, Search, Reopen, ReadAward, ReadFees, WriteSheet, Answer, State, IsOpen, IsClosed, IsAwarded, PlainRound, plain_round, Stepped, accepted, step_in, step, open_and_vacant, after}
use Rattle.rounds.specs.Promises.{LawfulCall, withdraws, withdrawn, closes, LastClosing, Promise, PromiseIn}
use Rattle.rounds.proofs.Entered.{vacant_sound, filed_sound, withdrawn_sound, caught_sound}
use Rattle.rounds.proofs.Dockets.{made, made_by, none_taken}
use Rattle.rounds.proofs.Searches.{steps_placed, steps_lead, settles}
use Rattle.rounds.proofs.Rows.{sales_of_row}
use Rattle.rounds.proofs.Histories.{after_more, some_more, closing_more, closing_now}

-- the entry of package i + 1 is withdrawn
abbrev Gone : Entries → ℕ → Type 0
Gone all i = withdrawn_at all kind.Package i ≡ true

-- What holds of a docket and a search of it, whether finished or not.
pub record Searching (calls : List Call) (v : View) (at : Standing) : Type 0 where
  pub closing : LastClosing calls v
  pub closed : ByClosing v
  pub without : (n : ℕ) → withdrawn n closing.before ≡ true → has_number n v.packages ≡ false
  pub placed : Placed v at
  pub leads : Leads v at

abbrev pub InState : List Call → State → Type 0
InState calls IsOpen = Unit {0}
InState calls (IsClosed v at) = Searching calls v at
InState calls (IsAwarded v at) = Searching calls v at × (at.settled ≡ choices v)

-- What holds after every run of calls.
pub record Holds (calls : List Call) (m : PlainRound) : Type 0 where
  pub sound : Sound m.entries
  pub gone : (i : ℕ) → withdrawn (i + 1) calls ≡ true → Gone m.entries i
  pub in_state : InState calls m.state

-- What one call does to the entries.
record Enters (call : Call) (before : Entries) (s : Stepped) : Type 0 where
  sound : Sound s.after.entries
  lasts : (i : ℕ) → Gone before i → Gone s.after.entries i
  says : (i : ℕ) → withdraws (i + 1) call ≡ true → accepted s.answer ≡ true → Gone s.after.entries i

-- an entry that is withdrawn stays so
gone_on : (a b : Entry Package) → Onward a b → is_withdrawn a ≡ true → is_withdrawn b ≡ true
gone_on Vacant b on gone = absurd (true≢false (sym gone))
gone_on (Open r) b on gone = absurd (true≢false (sym gone))
gone_on (Withdrawn r) b on gone = ap is_withdrawn on

-- an accepted withdrawal withdraws
withdraws_it : {R : Type 0} (k : Layout R) (es : List (Entry R)) (i : ℕ) → is_ok (withdrawing k es (i + 1)).answer ≡ true → is_withdrawn (get_or (withdrawing k es (i + 1)).after i Vacant) ≡ true
withdraws_it k es i =
    cond_both (numbered k es (i + 1)) _ _ (λ (o : Outcome (List (Entry _))). is_ok o.answer ≡ true → is_withdrawn (get_or o.after i Vacant) ≡ true)
    (λ e. over (inside k es (i + 1) e).1 (entry es (i + 1)))
    (λ _ bad. absurd (true≢false (sym bad)))
  where
    over : i + 1 ≤ length es → (held : Entry _) → is_ok (withdraw_over k es (i + 1) held).answer ≡ true → is_withdrawn (get_or (withdraw_over k es (i + 1) held).after i Vacant) ≡ true
    over inside Vacant bad = absurd (true≢false (sym bad))
    over inside (Open r) ok = ap is_withdrawn (get_or-set_at es (i + 1 - 1) i (Withdrawn r) Vacant (omega arith) (omega arith))
    over inside (Withdrawn r) bad = absurd (true≢false (sym bad))

ok_is : (r : Result Unit Refusal) → is_ok r ≡ true → r ≡ Ok tt
ok_is (Ok u) e = refl
ok_is (Err why) e = absurd (true≢false (sym e))

module _ (all : Entries) (sound : Sound all) where
  filed : (n : ℕ) (x : Offer) → Enters (File n x) all (step_in all IsOpen (File n x))
  filed n x = record {
    sound = filed_sound all n x sound;
    lasts = λ i. gone_on (get_or all.packages i Vacant) (get_or (file_offer all n x).after.packages i Vacant) ((file_kept all n x).onward kind.Package i);
    says = λ i no. absurd (true≢false (sym no));
  }

  withdrawn_now : (k : Kind) (n i : ℕ) → withdraws (i + 1) (Withdraw k n) ≡ true → is_ok (withdraw_offer all k n).answer ≡ true → Gone (withdraw_offer all k n).after i
  withdrawn_now kind.Package n i says ok =
      let same : n ≡ i + 1 = eqb-true n (i + 1) says in
      subst (λ (m : ℕ). is_ok (withdraw_offer all kind.Package m).answer ≡ true → Gone (withdraw_offer all kind.Package m).after i) (sym same)
      (withdraws_it (layout_of kind.Package) all.packages i) ok
  withdrawn_now kind.Band n i says ok = absurd (true≢false (sym says))
  withdrawn_now kind.Pair n i says ok = absurd (true≢false (sym says))
  withdrawn_now kind.Exclusion n i says ok = absurd (true≢false (sym says))
  withdrawn_now kind.Limit n i says ok = absurd (true≢false (sym says))

  withdrew : (k : Kind) (n : ℕ) → Enters (Withdraw k n) all (step_in all IsOpen (Withdraw k n))
  withdrew k n = record {
    sound = withdrawn_sound all k n sound;
    lasts = λ i. gone_on (get_or all.packages i Vacant) (get_or (withdraw_offer all k n).after.packages i Vacant) ((withdraw_kept all k n).onward kind.Package i);
    says = withdrawn_now k n;
  }

  caught : (sheet : List ℕ) → Enters (CatchUp sheet) all (step_in all IsOpen (CatchUp sheet))
  caught sheet =
      let c = caught_up all sheet in
      record {
        sound = caught_sound all sheet sound;
        lasts = λ i. gone_on (get_or all.packages i Vacant) (get_or (catching_up all sheet).after.packages i Vacant) (c.onward kind.Package i);
        says = λ i says ok. c.withdrawn (ok_is (catching_up all sheet).answer ok) kind.Package i ∙ ap (λ b. withdrawn_at all kind.Package i || b) says ∙ or_true (withdrawn_at all kind.Package i);
      }
    where
      or_true : (b : Bool) → (b || true) ≡ true
      or_true true = refl
      or_true false = refl

  -- a call that leaves the entries as they are, and withdraws nothing
  leaves : (call : Call) (s : Stepped) → s.after.entries ≡ all → ((i : ℕ) → withdraws (i + 1) call ≡ true → accepted s.answer ≡ true → ⊥) → Enters call all s
  leaves call s same none = record {
    sound = subst Sound (sym same) sound;
    lasts = λ i gone. subst (λ (a : Entries). Gone a i) (sym same) gone;
    says = λ i says ok. absurd (none i says ok);
  }

-- What one call more keeps.
record Next (calls : List Call) (call : Call) (before : Entries) (s : Stepped) : Type 0 where
  enters : Enters call before s
  in_state : InState (calls ++ call ∷ []) s.after.state

-- a docket and its search stay with one call more that is no accepted closing
stays : (calls : List Call) (v : View) (at : Standing) (call : Call) → Searching calls v at → (closes call && accepted (step (after calls) call).answer) ≡ false → Searching (calls ++ call ∷ []) v at
stays calls v at call was none = record {
  closing = closing_more calls v was.closing call none;
  closed = was.closed;
  without = was.without;
  placed = was.placed;
  leads = was.leads;
}

no_true : (b : Bool) → b ≡ true → b ≡ false → ⊥
no_true b e f = true≢false (sym e ∙ f)

module _ (calls : List Call) (all : Entries) (sound : Sound all) (gone : (i : ℕ) → withdrawn (i + 1) calls ≡ true → Gone all i) where
  -- an open round closes if each open package has a price
  closes_on : (price : Meaning) → after calls ≡ plain_round all IsOpen → ((p : Package) → Bounded (price p)) → Next calls (Close price) all (step_in all IsOpen (Close price))
  closes_on price at bounded = by (priced price (open_from 1 all.packages)) refl
    where
      by : (r : Result (List PricedPackage) Refusal) → priced price (open_from 1 all.packages) ≡ r → Next calls (Close price) all (step_in all IsOpen (Close price))
      by (Err why) e = rw e (record { enters = leaves all sound (Close price) _ refl (λ i no _. true≢false (sym no)); in_state = tt })
      by (Ok ps) e =
          let v = docket_with all ps in
          let m = made all price ps e in
          let closed = made_by all price v sound bounded m.is in
          let before : (i : ℕ) → suc i - 1 ≡ i = λ i. omega arith in
          let none : (n : ℕ) → withdrawn n calls ≡ true → has_number n v.packages ≡ false =
          elim [ zero ↦ λ _. m.none_zero | suc i ↦ λ said. m.without (suc i) (λ e. absurd (omega arith)) (subst (Gone all) (sym (before i)) (gone i (subst (λ (n : ℕ). withdrawn n calls ≡ true) (sym (add-one i)) said))) ] in
          rw e (record {
            enters = leaves all sound (Close price) _ refl (λ i no _. true≢false (sym no));
            in_state = record {
              closing = closing_now calls v price (ap (λ (r : PlainRound). r.state) at) (ap (λ (r : PlainRound). closing nothing_open r.entries price) at ∙ m.is);
              closed = closed;
              without = none;
              placed = start-placed v;
              leads = start-leads v (ranged-closing v closed);
            };
          })

  -- a search
  searches_on : (v : View) (at : Standing) (rule : _) (count : ℕ) → SoundRule rule → Searching calls v at → Next calls (Search rule count) all (step_in all (IsClosed v at) (Search rule count))
  searches_on v at rule count law was =
      cond_both (within 1 1000000 count) _ _ (λ (s : Stepped). Next calls (Search rule count) all s)
      (λ _. record { enters = leaves all sound (Search rule count) _ refl (λ i no _. true≢false (sym no)); in_state = ended })
      (λ _. record { enters = leaves all sound (Search rule count) _ refl (λ i no _. true≢false (sym no)); in_state = stays calls v at (Search rule count) was refl })
    where
      to : Standing
      to = after_steps rule v count at

      on : Searching (calls ++ Search rule count ∷ []) v to
      on = record {
        closing = closing_more calls v was.closing (Search rule count) refl;
        closed = was.closed;
        without = was.without;
        placed = steps_placed rule v count at was.placed;
        leads = steps_lead rule v was.closed law count at was.placed was.leads;
      }

      ended : InState (calls ++ Search rule count ∷ []) (cond (finished v to) (IsAwarded v to) (IsClosed v to))
      ended =
          cond_both (finished v to) _ _ (InState (calls ++ Search rule count ∷ []))
          (λ e. (on, eqb-true to.settled (choices v) e))
          (λ _. on)

-- one call more that leaves entries and state as they were, and withdraws nothing
quiet : (calls : List Call) (all : Entries) (s : State) (call : Call) (answer : Answer) → Sound all → InState (calls ++ call ∷ []) s
    → ((i : ℕ) → withdraws (i + 1) call ≡ true → accepted answer ≡ true → ⊥) → Next calls call all (told all s answer)
quiet calls all s call answer sound held none = record { enters = leaves all sound call (told all s answer) refl none; in_state = held }

-- Whatever the state, one call more keeps what holds.
next : (calls : List Call) (all : Entries) (s : State) (call : Call) → after calls ≡ plain_round all s → LawfulCall call → Holds calls (plain_round all s) → Next calls call all (step_in all s call)
next calls all IsOpen (File n x) is law h = record { enters = filed all h.sound n x; in_state = tt }
next calls all IsOpen (Withdraw k n) is law h = record { enters = withdrew all h.sound k n; in_state = tt }
next calls all IsOpen (CatchUp sheet) is law h = record { enters = caught all h.sound sheet; in_state = tt }
next calls all IsOpen (Close price) is law h = closes_on calls all h.sound h.gone price is law
next calls all IsOpen (Search rule count) is law h = quiet calls all IsOpen (Search rule count) NotTaken h.sound tt (λ i no _. true≢false (sym no))
next calls all IsOpen Reopen is law h = quiet calls all IsOpen Reopen NotTaken h.sound tt (λ i no _. true≢false (sym no))
next calls all IsOpen (ReadAward lent) is law h = quiet calls all IsOpen (ReadAward lent) NotTaken h.sound tt (λ i no _. true≢false (sym no))
next calls all IsOpen (ReadFees rates lent) is law h = quiet calls all IsOpen (ReadFees rates lent) NotTaken h.sound tt (λ i no _. true≢false (sym no))
next calls all IsOpen (WriteSheet buffer) is law h = quiet calls all IsOpen (WriteSheet buffer) (written all buffer) h.sound tt (λ i no _. true≢false (sym no))
next calls all (IsClosed v at) (File n x) is law h = quiet calls all (IsClosed v at) (File n x) NotTaken h.sound (stays calls v at (File n x) h.in_state refl) (λ i no _. true≢false (sym no))
next calls all (IsClosed v at) (Withdraw k n) is law h = quiet calls all (IsClosed v at) (Withdraw k n) NotTaken h.sound (stays calls v at (Withdraw k n) h.in_state refl) (λ i _ no. true≢false (sym no))
next calls all (IsClosed v at) (CatchUp sheet) is law h = quiet calls all (IsClosed v at) (CatchUp sheet) NotTaken h.sound (stays calls v at (CatchUp sheet) h.in_state refl) (λ i _ no. true≢false (sym no))
next calls all (IsClosed v at) (Close price) is law h = quiet calls all (IsClosed v at) (Close price) NotTaken h.sound (stays calls v at (Close price) h.in_state (ap (λ (m : PlainRound). accepted (step m (Close price)).answer) is)) (λ i _ no. true≢false (sym no))
next calls all (IsClosed v at) (Search rule count) is law h = searches_on calls all h.sound h.gone v at rule count law h.in_state
next calls all (IsClosed v at) Reopen is law h = quiet calls all IsOpen Reopen Reopened h.sound tt (λ i no _. true≢false (sym no))
next calls all (IsClosed v at) (ReadAward lent) is law h = quiet calls all (IsClosed v at) (ReadAward lent) NotTaken h.sound (stays calls v at (ReadAward lent) h.in_state refl) (λ i no _. true≢false (sym no))
next calls all (IsClosed v at) (ReadFees rates lent) is law h = quiet calls all (IsClosed v at) (ReadFees rates lent) NotTaken h.sound (stays calls v at (ReadFees rates lent) h.in_state refl) (λ i no _. true≢false (sym no))
next calls all (IsClosed v at) (WriteSheet buffer) is law h = quiet calls all (IsClosed v at) (WriteSheet buffer) (written all buffer) h.sound (stays calls v at (WriteSheet buffer) h.in_state refl) (λ i no _. true≢false (sym no))
next calls all (IsAwarded v at) (File n x) is law h = quiet calls all (IsAwarded v at) (File n x) NotTaken h.sound (stays calls v at (File n x) h.in_state.0 refl, h.in_state.1) (λ i no _. true≢false (sym no))
next calls all (IsAwarded v at) (Withdraw k n) is law h = quiet calls all (IsAwarded v at) (Withdraw k n) NotTaken h.sound (stays calls v at (Withdraw k n) h.in_state.0 refl, h.in_state.1) (λ i _ no. true≢false (sym no))
next calls all (IsAwarded v at) (CatchUp sheet) is law h = quiet calls all (IsAwarded v at) (CatchUp sheet) NotTaken h.sound (stays calls v at (CatchUp sheet) h.in_state.0 refl, h.in_state.1) (λ i _ no. true≢false (sym no))
next calls all (IsAwarded v at) (Close price) is law h = quiet calls all (IsAwarded v at) (Close price) NotTaken h.sound (stays calls v at (Close price) h.in_state.0 (ap (λ (m : PlainRound). accepted (step m (Close price)).answer) is), h.in_state.1) (λ i _ no. true≢false (sym no))
next calls all (IsAwarded v at) (Search rule count) is law h = quiet calls all (IsAwarded v at) (Search rule count) NotTaken h.sound (stays calls v at (Search rule count) h.in_state.0 refl, h.in_state.1) (λ i no _. true≢false (sym no))
next calls all (IsAwarded v at) Reopen is law h = quiet calls all IsOpen Reopen Reopened h.sound tt (λ i no _. true≢false (sym no))
next calls all (IsAwarded v at) (ReadAward lent) is law h = quiet calls all (IsAwarded v at) (ReadAward lent) (award v at lent) h.sound (stays calls v at (ReadAward lent) h.in_state.0 refl, h.in_state.1) (λ i no _. true≢false (sym no))
next calls all (IsAwarded v at) (ReadFees rates lent) is law h = quiet calls all (IsAwarded v at) (ReadFees rates lent) (charged rates v at lent) h.sound (stays calls v at (ReadFees rates lent) h.in_state.0 refl, h.in_state.1) (λ i no _. true≢false (sym no))
next calls all (IsAwarded v at) (WriteSheet buffer) is law h = quiet calls all (IsAwarded v at) (WriteSheet buffer) (written all buffer) h.sound (stays calls v at (WriteSheet buffer) h.in_state.0 refl, h.in_state.1) (λ i no _. true≢false (sym no))

-- so a package that was withdrawn by then is gone
gone_more : (calls : List Call) (all : Entries) (s : State) (call : Call) → after calls ≡ plain_round all s → ((i : ℕ) → withdrawn (i + 1) calls ≡ true → Gone all i) → Enters call all (step_in all s call)
    → (i : ℕ) → withdrawn (i + 1) (calls ++ call ∷ []) ≡ true → Gone (step_in all s call).after.entries i
gone_more calls all s call at gone enters i said =
    ⊎_elim
    (λ (was : withdrawn (i + 1) calls ≡ true). enters.lasts i (gone i was))
    (λ (now : (withdraws (i + 1) call && accepted (step (after calls) call).answer) ≡ true).
    let parts = and_parts (withdraws (i + 1) call) (accepted (step (after calls) call).answer) now in
    enters.says i parts.0 (subst (λ (m : PlainRound). accepted (step m call).answer ≡ true) at parts.1))
    (or_cases (withdrawn (i + 1) calls) (withdraws (i + 1) call && accepted (step (after calls) call).answer) (sym (some_more (withdraws (i + 1)) open_and_vacant calls call) ∙ said))

-- One call more, on what calls left.
holds_more : (calls : List Call) (call : Call) → LawfulCall call → Holds calls (after calls) → Holds (calls ++ call ∷ []) (after (calls ++ call ∷ []))
holds_more calls call law h =
    let m = after calls in
    let n = next calls m.entries m.state call refl law h in
    subst (Holds (calls ++ call ∷ [])) (sym (after_more calls call))
    (record {
      sound = n.enters.sound;
      gone = gone_more calls m.entries m.state call refl h.gone n.enters;
      in_state = n.in_state;
    })

-- so after any calls more
holds_on : (calls more : List Call) → Every LawfulCall more → Holds calls (after calls) → Holds (calls ++ more) (after (calls ++ more))
holds_on calls [] laws h = subst (λ (xs : List Call). Holds xs (after xs)) (sym (append-nil calls)) h
holds_on calls (call ∷ more) laws h =
    subst (λ (xs : List Call). Holds xs (after xs)) (append_assoc calls (call ∷ []) more)
    (holds_on (calls ++ call ∷ []) more laws.1 (holds_more calls call laws.0 h))

-- What holds after any calls whose rules show their laws.
pub holds : (calls : List Call) → Every LawfulCall calls → Holds calls (after calls)
holds calls laws = holds_on [] calls laws (record { sound = vacant_sound; gone = λ i no. absurd (true≢false (sym no)); in_state = tt })

kept : (calls : List Call) (all : Entries) (s : State) → InState calls s → PromiseIn calls (plain_round all s) s
kept calls all IsOpen h = tt
kept calls all (IsClosed v at) h = record {
  closing = h.closing;
  leader = h.leads;
  goes_on = λ below more none enough.
      settles all v at at 0 more h.placed below (record { lasts = omega arith; smaller = λ _. omega arith }) none (omega arith);
}
kept calls all (IsAwarded v at) h = record {
  closing = h.0.closing;
  none_withdrawn = λ n said. none_taken n v.packages at.leader (h.0.without n said);
  all_settled = h.1;
  award = subst (λ (bound : ℕ). Leading v bound at) h.1 h.0.leads;
  sales = sales_of_row v at.leader (ranged-closing v h.0.closed);
}

-- The promise of every run.
pub promised : (calls : List Call) → Every LawfulCall calls → Promise calls (after calls)
promised calls laws = kept calls (after calls).entries (after calls).state (holds calls laws).in_state
