-- What a sheet is cleared to.
use Rattle.std.specs.Prelude.{◌≡◌, ℕ, List, [], ◌∷◌, Some, None, Option, Ok, Err, Result}
use Rattle.offers.specs.declared.refusals.Refusal.{Refusal}
use Rattle.pricing.specs.Prices.{filed_price}
use Rattle.bounds.specs.Blocks.{Answers}
use Rattle.rounds.specs.declared.awarded_round.AwardedRound.{AwardedRound}
use Rattle.rounds.specs.Model.{Call, CatchUp, Close, Answer, Done, PlainRound, answers_from, after_from}
use Rattle.rounds.specs.Promises.{refusal_in}
use Rattle.rounds.specs.Views.{of_awarded, Finishes}

-- a sheet is caught up with, and the round closed with the prices as filed
abbrev pub sheet_calls : List ℕ → List Call
sheet_calls sheet = CatchUp sheet ∷ Close filed_price ∷ []

-- the first refusal among answers
abbrev pub first_of : Option Refusal → Option Refusal → Option Refusal
first_of None later = later
first_of (Some e) later = Some e

abbrev pub first_refusal : List Answer → Option Refusal
first_refusal [] = None
first_refusal (answer ∷ answers) = first_of (refusal_in answer) (first_refusal answers)

-- A round that is awarded what a sheet makes of it, searched by a rule of this meaning.
pub record Cleared (rule : Answers) (before : PlainRound) (sheet : List ℕ) (round : AwardedRound) : Type 0 where
  -- both calls are accepted
  pub accepted : answers_from before (sheet_calls sheet) ≡ Done (Ok tt) ∷ Done (Ok tt) ∷ []
  -- and the round is searched to its end by the rule; so its award is the best, as every run promises
  pub finished : Finishes (after_from before (sheet_calls sheet)) rule (of_awarded round)

-- or the first of the two that is refused says why
abbrev pub NotCleared : PlainRound → List ℕ → Refusal → Type 0
NotCleared before sheet why = first_refusal (answers_from before (sheet_calls sheet)) ≡ Some why

-- what clearing a sheet comes to: a round that is awarded, or a refusal
abbrev pub ClearsTo : Answers → PlainRound → List ℕ → Result AwardedRound Refusal → Type 0
ClearsTo rule before sheet (Ok round) = Cleared rule before sheet round
ClearsTo rule before sheet (Err why) = NotCleared before sheet why
