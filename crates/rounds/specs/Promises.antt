-- What is promised of a round after calls. How a step of the search is made stands in Search.antt of `search`.
use Rattle.std.specs.Prelude.{◌≡◌, ℕ, ◌+◌, ◌-◌, ◌<◌, ◌≤◌, Bool, true, false, ◌&&◌, List, [], ◌∷◌, ◌++◌, map, length, Ok, Err, Some, None, Option, ◌==◌, slice_index_or, if◌then◌else◌}
use Rattle.offers.specs.declared.kinds.Kind.{Kind}
use Rattle.offers.specs.declared.kinds.Kind.TheVariants as kind
use Rattle.offers.specs.declared.refusals.Refusal.{Refusal}
use Rattle.offers.specs.Memory.{entries_of}
use Rattle.offers.specs.Refusals.{Carries}
use Rattle.offers.specs.Registers.{Onward}
use Rattle.offers.specs.declared.registers.Entry.TheVariants.{Vacant}
use Rattle.pricing.specs.Prices.{BoundedRule, Meaning}
use Rattle.sheets.specs.Laws.{says_withdrawn}
use Rattle.clearing.specs.Choices.{taken, has_number}
use Rattle.clearing.specs.Closing.{OfOpen, closing}
use Rattle.clearing.specs.Lawful.{View, nothing_open, filled_sales, choices}
use Rattle.bounds.specs.Blocks.{SoundRule}
use Rattle.search.specs.Search.{Standing, Leading}
use Rattle.rounds.specs.Model.{Call, File, Withdraw, CatchUp, Close, Search, Reopen, ReadAward, ReadFees, WriteSheet, Answer, Done, Found, Reopened, Awarded, Charged, Written, NotTaken, State, IsOpen, IsClosed, IsAwarded, PlainRound, Stepped, accepted, sold_row, step, open_and_vacant, after_from, after, some_accepted}

-- a call whose rule, if it has one, shows its law: prices in range, or answers that are true of every block of every docket that a closing makes
abbrev pub LawfulCall : Call → Type 0
LawfulCall (File n offer) = Unit {0}
LawfulCall (Withdraw k n) = Unit {0}
LawfulCall (CatchUp sheet) = Unit {0}
LawfulCall (Close price) = BoundedRule price
LawfulCall (Search rule count) = SoundRule rule
LawfulCall Reopen = Unit {0}
LawfulCall (ReadAward lent) = Unit {0}
LawfulCall (ReadFees rates lent) = Unit {0}
LawfulCall (WriteSheet buffer) = Unit {0}

abbrev pub is_package : Kind → Bool
is_package kind.Package = true
is_package kind.Band = false
is_package kind.Pair = false
is_package kind.Exclusion = false
is_package kind.Limit = false

-- a call says of package n that it is withdrawn: a withdrawal by its number, a sheet by a field that has it so
abbrev pub withdraws : ℕ → Call → Bool
withdraws n (File m offer) = false
withdraws n (Withdraw k m) = is_package k && m == n
withdraws n (CatchUp sheet) = says_withdrawn sheet kind.Package n
withdraws n (Close price) = false
withdraws n (Search rule count) = false
withdraws n Reopen = false
withdraws n (ReadAward lent) = false
withdraws n (ReadFees rates lent) = false
withdraws n (WriteSheet buffer) = false

-- package n is withdrawn once an accepted call says so
abbrev pub withdrawn : ℕ → List Call → Bool
withdrawn n calls = some_accepted (withdraws n) open_and_vacant calls

-- the call is a closing
abbrev pub closes : Call → Bool
closes (File n offer) = false
closes (Withdraw k n) = false
closes (CatchUp sheet) = false
closes (Close price) = true
closes (Search rule count) = false
closes Reopen = false
closes (ReadAward lent) = false
closes (ReadFees rates lent) = false
closes (WriteSheet buffer) = false

-- the call is a reopening
abbrev pub reopens : Call → Bool
reopens (File n offer) = false
reopens (Withdraw k n) = false
reopens (CatchUp sheet) = false
reopens (Close price) = false
reopens (Search rule count) = false
reopens Reopen = true
reopens (ReadAward lent) = false
reopens (ReadFees rates lent) = false
reopens (WriteSheet buffer) = false

-- The last accepted closing among calls, and the docket of the offers that were open at it.
pub record LastClosing (calls : List Call) (docket : View) : Type 0 where
  -- the calls before it, the meaning of its price rule, and the calls after it
  pub before : List Call
  pub price : Meaning
  pub later : List Call
  pub so : calls ≡ before ++ Close price ∷ later
  -- the round was open when it came
  pub was_open : (after before).state ≡ IsOpen
  -- it was accepted, and made this docket
  pub made : closing nothing_open (after before).entries price ≡ record { answer = Ok tt; after = docket }
  -- which has what was open among the entries that the calls before it had left, at the rule's prices, and nothing else
  pub open_then : OfOpen (after before).entries price docket
  -- no later closing was accepted
  pub last : some_accepted closes (after (before ++ Close price ∷ [])) later ≡ false

-- the steps that a call is given, if it is an accepted search
abbrev pub steps_of : Call → Bool → ℕ
steps_of (File n offer) so = 0
steps_of (Withdraw k n) so = 0
steps_of (CatchUp sheet) so = 0
steps_of (Close price) so = 0
steps_of (Search rule count) so = if so then count else 0
steps_of Reopen so = 0
steps_of (ReadAward lent) so = 0
steps_of (ReadFees rates lent) so = 0
steps_of (WriteSheet buffer) so = 0

-- the steps that the accepted searches among calls are given, together
abbrev pub steps_given : PlainRound → List Call → ℕ
steps_given m [] = 0
steps_given m (call ∷ calls) = steps_of call (accepted (step m call).answer) + steps_given (step m call).after calls

-- the choices that are settled, where there is a docket
abbrev pub settled_in : State → ℕ
settled_in IsOpen = 0
settled_in (IsClosed v at) = at.settled
settled_in (IsAwarded v at) = at.settled

-- Of an awarded round that calls led to.
pub record OfAward (calls : List Call) (docket : View) (at : Standing) : Type 0 where
  -- its docket is that of the last accepted closing
  pub closing : LastClosing calls docket
  -- the award takes no package that was withdrawn before that closing
  pub none_withdrawn : (n : ℕ) → withdrawn n closing.before ≡ true → has_number n (taken docket.packages at.leader) ≡ false
  -- every choice is settled
  pub all_settled : at.settled ≡ choices docket
  -- and the award is the best lawful choice of all, from the offers open at the closing
  pub award : Leading docket (choices docket) at
  -- with the sales that the award's row has under the number of each open band
  pub sales : map (λ b. slice_index_or (sold_row docket at.leader) (b.number - 1) 0) docket.bands ≡ filled_sales docket at.leader

-- Of a round that is closed and not yet awarded; `round` is what the calls left.
pub record OfSearch (calls : List Call) (round : PlainRound) (docket : View) (at : Standing) : Type 0 where
  -- its docket is that of the last accepted closing
  pub closing : LastClosing calls docket
  -- the leader is the best of the choices settled
  pub leader : Leading docket at.settled at
  -- while a choice is unsettled: if no reopening follows, searches that are given as many steps together as there are open packages
  -- settle one more, whatever other calls stand between them
  pub goes_on : at.settled < choices docket → (more : List Call) → some_accepted reopens round more ≡ false
      → length docket.packages ≤ steps_given round more
      → at.settled < settled_in (after_from round more).state

-- an open round has no docket, and so nothing is promised of one
abbrev pub PromiseIn : List Call → PlainRound → State → Type 0
PromiseIn calls round IsOpen = Unit {0}
PromiseIn calls round (IsClosed docket at) = OfSearch calls round docket at
PromiseIn calls round (IsAwarded docket at) = OfAward calls docket at

-- What is promised of a round that calls led to from open and vacant.
abbrev pub Promise : List Call → PlainRound → Type 0
Promise calls round = PromiseIn calls round round.state

-- the refusal that an answer is, if it is one
abbrev pub refusal_in : Answer → Option Refusal
refusal_in (Done (Ok u)) = None
refusal_in (Done (Err e)) = Some e
refusal_in (Found (Ok found)) = None
refusal_in (Found (Err e)) = Some e
refusal_in Reopened = None
refusal_in (Awarded (Ok award) row) = None
refusal_in (Awarded (Err e) row) = Some e
refusal_in (Charged (Ok total) row) = None
refusal_in (Charged (Err e) row) = Some e
refusal_in (Written (Ok size) buffer) = None
refusal_in (Written (Err e) buffer) = Some e
refusal_in NotTaken = None

-- the row or buffer that a call is lent
abbrev pub lent_with : Call → List ℕ
lent_with (File n offer) = []
lent_with (Withdraw k n) = []
lent_with (CatchUp sheet) = []
lent_with (Close price) = []
lent_with (Search rule count) = []
lent_with Reopen = []
lent_with (ReadAward lent) = lent
lent_with (ReadFees rates lent) = lent
lent_with (WriteSheet buffer) = buffer

-- what an answer leaves of it; a row or buffer that comes with a call that is not taken is not given back
abbrev pub lent_back : Answer → List ℕ
lent_back (Done r) = []
lent_back (Found r) = []
lent_back Reopened = []
lent_back (Awarded r row) = row
lent_back (Charged r row) = row
lent_back (Written r buffer) = buffer
lent_back NotTaken = []

-- What every call keeps.
pub record Keeps (before : PlainRound) (call : Call) (s : Stepped) : Type 0 where
  -- no offer number goes back, and a record never changes
  pub onward : (k : Kind) (i : ℕ) → Onward (slice_index_or (entries_of before.entries k) i Vacant) (slice_index_or (entries_of s.after.entries k) i Vacant)
  -- a call that is not accepted leaves the round as it was
  pub unchanged : accepted s.answer ≡ false → s.after ≡ before
  -- a refusal leaves the row or buffer that was lent as it was, and carries no more than its code does
  pub lent : (e : Refusal) → refusal_in s.answer ≡ Some e → lent_back s.answer ≡ lent_with call
  pub carries : (e : Refusal) → refusal_in s.answer ≡ Some e → Carries e

-- The promise of a whole run.
pub record Promised (calls : List Call) : Type 0 where
  -- after each of its calls, what is promised of the round that they led to so far
  pub kept : (before later : List Call) → calls ≡ before ++ later → Promise before (after before)
  -- and what every call keeps, each of them kept
  pub each : (before later : List Call) (call : Call) → calls ≡ before ++ call ∷ later → Keeps (after before) call (step (after before) call)
