-- What the rounds that callers hold are as plain rounds, and what calls give back.
use Rattle.std.specs.Prelude.{◌<◌, ◌≤◌, ◌≡◌, ℕ, ℤ, List, ◌∷◌, [], ◌++◌, replicate, Ok, Err, Result}
use Rattle.std.specs.List.{AllByRecursion as Every}
use Rattle.offers.specs.declared.refusals.Refusal.{Refusal}
use Rattle.clearing.specs.Lawful.{View, nothing_open}
use Rattle.bounds.specs.Blocks.{Answers}
use Rattle.search.specs.Search.{Standing, work_left}
use Rattle.rounds.specs.declared.open_round.OpenRound.{OpenRound}
use Rattle.rounds.specs.declared.closed_round.ClosedRound.{ClosedRound}
use Rattle.rounds.specs.declared.awarded_round.AwardedRound.{AwardedRound}
use Rattle.rounds.specs.declared.closed_round.Searched.{Searched}
use Rattle.rounds.specs.declared.closed_round.Searched.TheVariants as searched
use Rattle.rounds.specs.Model.{step, Call, Search, Answer, State, IsOpen, IsClosed, IsAwarded, PlainRound, plain_round, Stepped, Done, Found, after_from, after}
use Rattle.rounds.specs.Promises.{LawfulCall, Promise, Keeps}

abbrev pub of_open : OpenRound → PlainRound
of_open r = plain_round r.offers IsOpen

abbrev pub of_closed : ClosedRound → PlainRound
of_closed r = plain_round r.offers (IsClosed r.docket r.at)

abbrev pub of_awarded : AwardedRound → PlainRound
of_awarded r = plain_round r.offers (IsAwarded r.docket r.at)

abbrev pub of_searched : Searched → PlainRound
of_searched (searched.Closed r) = of_closed r
of_searched (searched.Awarded r) = of_awarded r

-- the docket of a state, where it has one
abbrev pub docket_in : State → View
docket_in IsOpen = nothing_open
docket_in (IsClosed docket at) = docket
docket_in (IsAwarded docket at) = docket

-- what a call left and answered
abbrev pub gave : PlainRound → Answer → Stepped
gave after answer = record { after = after; answer = answer }

-- a closing gives a closed round, or the open one back with the refusal
abbrev pub gave_closing : Result ClosedRound (OpenRound × Refusal) → Stepped
gave_closing (Ok r) = gave (of_closed r) (Done (Ok tt))
gave_closing (Err e) = gave (of_open e.0) (Done (Err e.1))

-- a search gives a round that is closed still or awarded, and what it found
abbrev pub gave_search : Searched × Result (ℕ × ℤ) Refusal → Stepped
gave_search found = gave (of_searched found.0) (Found found.1)

-- What one call more adds to a run: the plain round comes to the same, and the promise holds of the round.
pub record OneMore (calls : List Call) (call : Call) (s : Stepped) : Type 0 where
  -- what is left is what the calls and this one lead to
  pub round : s.after ≡ after (calls ++ call ∷ [])
  -- the answer is that of the plain round which the calls led to
  pub answer : s.answer ≡ (step (after calls) call).answer
  -- and what is promised is promised of what is left
  pub promise : Promise (calls ++ call ∷ []) s.after

-- So it is of every run of calls with lawful rules that led to the round.
abbrev pub Continues : PlainRound → Call → Stepped → Type 0
Continues before call s = (calls : List Call) → Every LawfulCall calls → after calls ≡ before → OneMore calls call s

-- What every call of a round owes, of the round before it and of what it gave back.
pub record Serves (before : PlainRound) (call : Call) (s : Stepped) : Type 0 where
  -- answer, next state and every buffer are those of the plain round
  pub step : s ≡ step before call
  -- no entry goes back, and a call that is not accepted alters nothing
  pub keeps : Keeps before call s
  -- and what is promised of a run that led to the round is promised of it with this call added
  pub run : Continues before call s

-- a search that has not finished leaves less to do
abbrev pub Falls : Searched → Standing → Type 0
Falls (searched.Closed r) from = work_left r.at < work_left from
Falls (searched.Awarded r) from = Unit {0}

-- A closed round is searched to its end.
pub record Finishes (before : PlainRound) (rule : Answers) (round : PlainRound) : Type 0 where
  -- so many searches under a rule, each of so many steps, a number that a search takes, lead to the round
  pub searches : ℕ
  pub steps : ℕ
  pub some : 1 ≤ steps
  pub most : steps ≤ 1000000
  pub is : round ≡ after_from before (replicate searches (Search rule steps))
  -- and what is promised of a run that led to the round is promised of the round
  pub run : (calls : List Call) → Every LawfulCall calls → after calls ≡ before → Promise (calls ++ replicate searches (Search rule steps)) round
