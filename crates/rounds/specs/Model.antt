-- A plain round, and what each call does to it: fed only the calls' arguments and the rules' meanings.
use Rattle.offers.specs.Tables.{BANDS}
use Rattle.std.specs.Prelude.{ℕ, Bool, true, false, ◌&&◌, ◌||◌, List, [], ◌∷◌, ◌++◌, length, drop, ℤ, Ok, Err, Result, is_ok, nat_le, if◌then◌else◌}
use Rattle.offers.specs.declared.kinds.Kind.{Kind}
use Rattle.offers.specs.declared.memory.Offer.{Offer}
use Rattle.offers.specs.declared.refusals.Code.TheVariants.{NoRoom, StepsOutside}
use Rattle.offers.specs.declared.refusals.Refusal.{Refusal}
use Rattle.offers.specs.Fields.{within}
use Rattle.offers.specs.Memory.{Entries, all_vacant, file_offer, withdraw_offer}
use Rattle.offers.specs.Refusals.{code_only}
use Rattle.offers.specs.Registers.{Outcome}
use Rattle.sheets.specs.Reading.{catching_up}
use Rattle.sheets.specs.Writing.{write_sheet}
use Rattle.clearing.specs.Closing.{closing}
use Rattle.pricing.specs.Prices.{Meaning}
use Rattle.clearing.specs.Lawful.{View, nothing_open}
use Rattle.clearing.specs.Choices.{taken, supply}
use Rattle.clearing.specs.Sales.{sale_of}
use Rattle.clearing.specs.Tallies.{row}
use Rattle.fees.specs.declared.rates.FeeRates.{FeeRates}
use Rattle.fees.specs.Charges.{charging}
use Rattle.bounds.specs.Blocks.{Answers}
use Rattle.rounds.specs.declared.awarded_round.Award.{Award}
use Rattle.search.specs.Search.{Standing, start_position, finished, after_steps}

-- what a caller may ask of a round
pub data Call : Type 0 where
  File : ℕ → Offer → Call
  Withdraw : Kind → ℕ → Call
  -- with the bytes of a sheet
  CatchUp : List ℕ → Call
  -- with a price rule's meaning
  Close : Meaning → Call
  -- with a bounding rule's meaning, and a count of steps
  Search : Answers → ℕ → Call
  Reopen : Call
  -- with the row that is lent
  ReadAward : List ℕ → Call
  -- with the rates, and the row that is lent
  ReadFees : FeeRates → List ℕ → Call
  -- with the buffer that is lent
  WriteSheet : List ℕ → Call

-- what it is answered
pub data Answer : Type 0 where
  Done : Result Unit Refusal → Answer
  -- choices settled, and the leader's surplus
  Found : Result (ℕ × ℤ) Refusal → Answer
  Reopened : Answer
  -- the award, and the row after the call
  Awarded : Result Award Refusal → List ℕ → Answer
  -- the fees of all buyers together, and the row after the call
  Charged : Result ℕ Refusal → List ℕ → Answer
  -- the sheet's length, and the buffer after the call
  Written : Result ℕ Refusal → List ℕ → Answer
  -- a call that this state of a round does not take
  NotTaken : Answer

-- an answer without a code, to a call that the state takes
abbrev pub accepted : Answer → Bool
accepted (Done r) = is_ok r
accepted (Found r) = is_ok r
accepted Reopened = true
accepted (Awarded r row) = is_ok r
accepted (Charged r row) = is_ok r
accepted (Written r buffer) = is_ok r
accepted NotTaken = false

-- what state a round is in: open, or with a docket and where its search stands
pub data State : Type 0 where
  IsOpen : State
  IsClosed : View → Standing → State
  IsAwarded : View → Standing → State

-- A plain round: the entries of all kinds, and its state.
pub record PlainRound : Type 0 where
  pub entries : Entries
  pub state : State

abbrev pub plain_round : Entries → State → PlainRound
plain_round entries state = record { entries = entries; state = state }

-- what a call leaves, and what it answers
pub record Stepped : Type 0 where
  pub after : PlainRound
  pub answer : Answer

-- an answer that leaves all as it is
abbrev pub told : Entries → State → Answer → Stepped
told entries state answer = record { after = plain_round entries state; answer = answer }

-- filing, withdrawing or catching up
abbrev pub entered : Outcome Entries → Stepped
entered o = record { after = plain_round o.after IsOpen; answer = Done o.answer }

-- a closing makes the docket, and choice 0 is settled and leads
abbrev pub closed_state : Result Unit Refusal → View → State
closed_state (Ok done) v = IsClosed v start_position
closed_state (Err e) v = IsOpen

abbrev pub closed : Entries → Outcome View → Stepped
closed entries o = record { after = plain_round entries (closed_state o.answer o.after); answer = Done o.answer }

-- a search that ends finished makes the award
abbrev pub searched_state : View → Standing → State
searched_state v at = if finished v at then IsAwarded v at else IsClosed v at

abbrev pub searched : Entries → View → Standing → Stepped
searched entries v at = record { after = plain_round entries (searched_state v at); answer = Found (Ok (at.settled, at.surplus)) }

-- what the packages that a choice takes supply, market m at place m - 1
abbrev pub supplies : View → ℕ → List ℕ
supplies v choice = row (λ m. supply m (taken v.packages choice)) 1 5

-- what each band is sold of a choice, by offer number
abbrev pub sold_row : View → ℕ → List ℕ
sold_row v choice = row (sale_of v.bands (supplies v choice)) 1 BANDS

-- the leader is the award; the row has a place for each band
abbrev pub award : View → Standing → List ℕ → Answer
award v at lent =
    if nat_le BANDS (length lent)
    then Awarded (Ok (record { choice = at.leader; surplus = at.surplus })) (sold_row v at.leader ++ drop BANDS lent)
    else Awarded (Err (code_only NoRoom)) lent

-- the fees on what the award sells; the row has a place for each buyer
abbrev pub charged : FeeRates → View → Standing → List ℕ → Answer
charged rates v at lent = Charged (charging rates v at.leader lent).answer (charging rates v at.leader lent).row

abbrev pub written : Entries → List ℕ → Answer
written entries buffer = Written (write_sheet entries buffer).answer (write_sheet entries buffer).buffer

-- One call on a round with these entries, in this state.
abbrev pub step_in : Entries → State → Call → Stepped
step_in all IsOpen (File n offer) = entered (file_offer all n offer)
step_in all IsOpen (Withdraw k n) = entered (withdraw_offer all k n)
step_in all IsOpen (CatchUp sheet) = entered (catching_up all sheet)
step_in all IsOpen (Close price) = closed all (closing nothing_open all price)
step_in all (IsClosed v at) (Search rule count) =
    if within 1 1000000 count then searched all v (after_steps rule v count at) else told all (IsClosed v at) (Found (Err (code_only StepsOutside)))
step_in all (IsClosed v at) Reopen = told all IsOpen Reopened
step_in all (IsAwarded v at) Reopen = told all IsOpen Reopened
step_in all (IsAwarded v at) (ReadAward lent) = told all (IsAwarded v at) (award v at lent)
step_in all (IsAwarded v at) (ReadFees rates lent) = told all (IsAwarded v at) (charged rates v at lent)
step_in all state (WriteSheet buffer) = told all state (written all buffer)
step_in all state call = told all state NotTaken

abbrev pub step : PlainRound → Call → Stepped
step m call = step_in m.entries m.state call

-- a round begins open and vacant
abbrev pub open_and_vacant : PlainRound
open_and_vacant = plain_round all_vacant IsOpen

-- calls one after another, each on what the one before it left
abbrev pub after_from : PlainRound → List Call → PlainRound
after_from m [] = m
after_from m (call ∷ calls) = after_from (step m call).after calls

abbrev pub after : List Call → PlainRound
after calls = after_from open_and_vacant calls

-- what calls are answered, each on what the one before it left
abbrev pub answers_from : PlainRound → List Call → List Answer
answers_from m [] = []
answers_from m (call ∷ calls) = let s : Stepped = step m call in s.answer ∷ answers_from s.after calls

abbrev pub answers : List Call → List Answer
answers calls = answers_from open_and_vacant calls

-- where a round stands, without its docket
pub data PlainStage : Type 0 where
  AtOpen : PlainStage
  AtClosed : Standing → PlainStage
  AtAwarded : Standing → PlainStage

abbrev pub stage_in : State → PlainStage
stage_in IsOpen = AtOpen
stage_in (IsClosed v at) = AtClosed at
stage_in (IsAwarded v at) = AtAwarded at

-- what a call is answered, and the entries and where the round stands right after it
pub record PlainMoment : Type 0 where
  pub answer : Answer
  pub entries : Entries
  pub stage : PlainStage

abbrev pub moment : Stepped → PlainMoment
moment s = record { answer = s.answer; entries = s.after.entries; stage = stage_in s.after.state }

-- the moments of a run, one after each call
abbrev pub moments_from : PlainRound → List Call → List PlainMoment
moments_from m [] = []
moments_from m (call ∷ calls) = moment (step m call) ∷ moments_from (step m call).after calls

-- one of the calls passes a test and is accepted
abbrev pub some_accepted : (Call → Bool) → PlainRound → List Call → Bool
some_accepted test m [] = false
some_accepted test m (call ∷ calls) = (test call && accepted (step m call).answer) || some_accepted test (step m call).after calls
