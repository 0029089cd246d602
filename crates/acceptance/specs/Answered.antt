-- What a round's first calls are answered, what they leave, and what an award comes to.
use Rattle.std.specs.Prelude.{◌≡◌, ℕ, ◌-◌, List, [], ◌∷◌, ◌++◌, map, length, replicate, ℤ, Some, None, Option, Ok}
use Rattle.offers.specs.declared.records.Band.{Band}
use Rattle.offers.specs.declared.records.Package.{Package}
use Rattle.offers.specs.declared.registers.Entry.{Entry}
use Rattle.offers.specs.declared.registers.Entry.TheVariants.{Vacant}
use Rattle.offers.specs.Tables.{BUYERS}
use Rattle.fees.specs.declared.rates.FeeRates.{FeeRates}
use Rattle.pricing.specs.Prices.{filed_price}
use Rattle.clearing.specs.Choices.{taken}
use Rattle.clearing.specs.Lawful.{Best}
use Rattle.bounds.specs.Rules.{limits_and_all_in}
use Rattle.rounds.specs.Model.{Call, Close, Search, ReadAward, ReadFees, Answer, Done, Found, Awarded, State, IsOpen, IsClosed, IsAwarded, PlainRound, plain_round, step, after, answers}

-- accepted, with nothing to tell
abbrev pub done : Answer
done = Done (Ok tt)

-- so each of some calls
abbrev pub all_done : List Call → List Answer
all_done calls = map (λ call. done) calls

-- a row to lend: 0 for every offer number
abbrev pub empty_row : List ℕ
empty_row = replicate 64 0

-- sales from band 1 on, and 0 for every further number
abbrev pub row_of : List ℕ → List ℕ
row_of sales = sales ++ replicate (64 - length sales) 0

-- an open round with entries for packages and bands, and every other number vacant
abbrev pub open_with : List (Entry Package) → List (Entry Band) → PlainRound
open_with packages bands = plain_round (record {
  packages = packages;
  bands = bands;
  pairs = replicate 64 Vacant;
  exclusions = replicate 64 Vacant;
  limits = replicate 32 Vacant;
}) IsOpen

-- What a round's first calls are answered, and what they leave of it.
pub record Leaves (calls : List Call) (answered : List Answer) (round : PlainRound) : Type 0 where
  -- each call, in turn, is answered so
  pub answers : answers calls ≡ answered
  -- and after the last the round is this
  pub after : after calls ≡ round

-- What a round that is searched to its end comes to.
pub record Clearing : Type 0 where
  -- the choices of its docket
  pub choices : ℕ
  -- the offer numbers of the packages taken
  pub packages : List ℕ
  -- the number of the choice that takes them
  pub choice : ℕ
  -- pesos
  pub surplus : ℤ
  -- what the bands are sold, from band 1 on
  pub sales : List ℕ

-- calls, then a closing with the filed rule and a search to the end under limits and all-in joined
abbrev pub cleared : List Call → List Call
cleared calls = calls ++ Close filed_price ∷ Search limits_and_all_in 1000000 ∷ []

-- the offer numbers of the packages that an awarded round takes
abbrev pub taken_in : State → List ℕ
taken_in IsOpen = []
taken_in (IsClosed docket at) = []
taken_in (IsAwarded docket at) = map (λ p. p.number) (taken docket.packages at.leader)

-- the leader of an awarded round
abbrev pub leader_in : State → Option ℕ
leader_in IsOpen = None
leader_in (IsClosed docket at) = None
leader_in (IsAwarded docket at) = Some at.leader

-- a choice is the best lawful one of a round's docket
abbrev pub BestIn : State → ℕ → Type 0
BestIn IsOpen choice = ⊥
BestIn (IsClosed docket at) choice = Best docket choice
BestIn (IsAwarded docket at) choice = Best docket choice

-- What is worked out of a round that begins with these calls and is then cleared.
pub record WorksOut (calls : List Call) (clearing : Clearing) : Type 0 where
  -- every call is accepted, the search has settled all choices, and the award is read
  pub answers : answers (cleared calls ++ ReadAward empty_row ∷ [])
      ≡ all_done calls
      ++ done
      ∷ Found (Ok (clearing.choices, clearing.surplus))
      ∷ Awarded (Ok (record { choice = clearing.choice; surplus = clearing.surplus })) (row_of clearing.sales)
      ∷ []
  -- the award is this choice
  pub leader : leader_in (after (cleared calls)).state ≡ Some clearing.choice
  -- which takes these packages
  pub packages : taken_in (after (cleared calls)).state ≡ clearing.packages

-- what the award of a round that begins with these calls and is then cleared charges, into a row of zeros
abbrev pub charged_in : List Call → FeeRates → Answer
charged_in calls rates = (step (after (cleared calls)) (ReadFees rates (replicate BUYERS 0))).answer

-- It comes to that, and no lawful choice is better.
pub record Clears (calls : List Call) (clearing : Clearing) : Type 0 where
  -- what the definitions of the calls come to
  pub works_out : WorksOut calls clearing
  -- by the rules of a lawful choice no other is better, with any sales, and none that is as good comes earlier
  pub best : BestIn (after (cleared calls)).state clearing.choice
