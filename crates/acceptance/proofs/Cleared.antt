-- The rules that the worked rounds use show their laws, so what is promised of every run is so of theirs.
use Rattle.std.specs.Prelude.{◌≡◌, ℕ, List, [], ◌∷◌, Some, unwrap_or}
use Rattle.std.specs.List.{AllByRecursion as Every}
use Rattle.std.proofs.Common.{rules, subst, ap}
use Rattle.std.proofs.lemmas.Option.{none-some}
use Rattle.offers.specs.declared.records.Package.{Package}
use Rattle.pricing.specs.Prices.{Bounded, filed_price}
use Rattle.clearing.specs.Lawful.{Best}
use Rattle.clearing.proofs.ClosedRanges.{ranged-closing}
use Rattle.bounds.specs.Blocks.{SoundRule}
use Rattle.bounds.specs.Laws.Joined.{smaller-sound}
use Rattle.bounds.specs.Laws.Limits.{limits-sound}
use Rattle.bounds.specs.Laws.AllIn.{all_in-sound}
use Rattle.bounds.specs.Rules.{limits_and_all_in}
use Rattle.rounds.specs.Model.{Call, State, IsOpen, IsClosed, IsAwarded, PlainRound, after}
use Rattle.rounds.specs.Promises.{LawfulCall, PromiseIn}
use Rattle.rounds.proofs.Runs.{promised}
use Rattle.acceptance.specs.Answered.{cleared, leader_in, BestIn, Clearing, WorksOut, Clears}

filed_bounded : (p : Package) → Bounded (filed_price p)
filed_bounded p = search rules

-- two sound rules joined are sound
joined_sound : SoundRule limits_and_all_in
joined_sound v b closed block =
    let ranged = ranged-closing v closed in
    smaller-sound v b _ _ (limits-sound v ranged b block) (all_in-sound v ranged b block)

cleared_lawful : (calls : List Call) → Every LawfulCall calls → Every LawfulCall (cleared calls)
cleared_lawful [] laws = (filed_bounded, (joined_sound, tt))
cleared_lawful (call ∷ calls) laws = (laws.0, cleared_lawful calls laws.1)

-- the leader of an awarded round is its best lawful choice
best : (calls : List Call) (round : PlainRound) (state : State) (choice : ℕ) → PromiseIn calls round state
    → leader_in state ≡ Some choice → BestIn state choice
best calls round IsOpen choice promise leads = absurd (none-some choice leads)
best calls round (IsClosed docket at) choice promise leads = absurd (none-some choice leads)
best calls round (IsAwarded docket at) choice promise leads =
    subst (Best docket) (ap (λ o. unwrap_or o 0) leads) promise.award.best

-- so a round that comes to something awards its best lawful choice
pub clears : {calls : List Call} {clearing : Clearing} → Every LawfulCall calls → WorksOut calls clearing
    → Clears calls clearing
clears {calls} {clearing} laws works_out =
    let promise = promised (cleared calls) (cleared_lawful calls laws) in
    record {
      works_out = works_out;
      best = best (cleared calls) (after (cleared calls)) _ clearing.choice promise works_out.leader;
    }
