-- Searches over whole runs: they stay placed and led, and so many steps settle one choice more.
use Rattle.std.proofs.Common.{◌≡◌, ℕ, zero, suc, ◌+◌, ◌^◌, ◌<◌, ◌≤◌, Bool, true, false, cond, List, [], ◌∷◌, length, Err, sym, refl, ◌∙◌, subst, ⊎_elim, add-zero, arith}
use Rattle.std.proofs.lemmas.Bool.{cond_both, eqb-true, eqb-false, cases_lt, true≢false}
use Rattle.std.proofs.lemmas.Nat.Gcd.{le_of_dvd, dvd_of_mod-eq-zero}
use Rattle.offers.specs.Fields.{within}
use Rattle.offers.specs.Memory.{Entries}
use Rattle.offers.specs.Refusals.{code_only}
use Rattle.offers.specs.declared.refusals.Code.TheVariants.{StepsOutside}
use Rattle.clearing.specs.Closing.{ByClosing}
use Rattle.clearing.specs.Lawful.{View, choices}
use Rattle.clearing.proofs.ClosedRanges.{ranged-closing}
use Rattle.clearing.proofs.Judged.{worth_tells}
use Rattle.bounds.specs.Blocks.{Answers, SoundRule}
use Rattle.search.specs.Search.{Standing, Placed, Leads, finished, after_step, after_steps}
use Rattle.search.proofs.Placings.{Moved, step-placed, moves_on}
use Rattle.search.proofs.Leadings.{step-leads}
use Rattle.search.proofs.Zeros.{power-smaller}
use Rattle.rounds.specs.Model.{Call, File, Withdraw, CatchUp, Close, Search, Reopen, ReadAward, ReadFees, WriteSheet, IsClosed, IsAwarded, plain_round, accepted, Found, told, searched, after_from, some_accepted}
use Rattle.rounds.specs.Promises.{reopens, steps_of, steps_given, settled_in}

-- a search that is not finished has a choice to settle
some_left : (v : View) (at : Standing) → Placed v at → finished v at ≡ false → at.settled < choices v
some_left v at placed e = omega (arith, placed.most, eqb-false at.settled (choices v) e)

module _ (rule : Answers) (v : View) where
  -- steps leave a search placed
  pub steps_placed : (count : ℕ) (at : Standing) → Placed v at → Placed v (after_steps rule v count at)
  steps_placed zero at placed = placed
  steps_placed (suc count) at placed =
      cond_both (finished v at) _ _ (Placed v)
      (λ _. placed)
      (λ e. steps_placed count (after_step rule v at) (step-placed rule v at placed (some_left v at placed e)))

  -- and its leader the best of the settled choices
  pub steps_lead : ByClosing v → SoundRule rule → (count : ℕ) (at : Standing) → Placed v at → Leads v at → Leads v (after_steps rule v count at)
  steps_lead closed sound zero at placed leads = leads
  steps_lead closed sound (suc count) at placed leads =
      let ranged = ranged-closing v closed in
      cond_both (finished v at) _ _ (Leads v)
      (λ _. leads)
      (λ e.
      let below = some_left v at placed e in
      steps_lead closed sound count (after_step rule v at) (step-placed rule v at placed below)
      (step-leads v ranged rule (worth_tells v ranged) (λ b. sound v b closed) at placed below leads))

  -- so many steps have settled something, or left a smaller block for each
  steps_move : (from at : Standing) (count so_far : ℕ) → Moved from at so_far
      → (finished v (after_steps rule v count at) ≡ false) → Moved from (after_steps rule v count at) (so_far + count)
  steps_move from at zero so_far moved going = subst (Moved from at) (sym (add-zero so_far)) moved
  steps_move from at (suc count) so_far moved going =
      by (finished v at) refl (steps_move from (after_step rule v at) count (so_far + 1) (moves_on rule v from at so_far moved)) going
    where
      by : (b : Bool) → finished v at ≡ b
          → (finished v (after_steps rule v count (after_step rule v at)) ≡ false → Moved from (after_steps rule v count (after_step rule v at)) (so_far + 1 + count))
          → finished v (cond b at (after_steps rule v count (after_step rule v at))) ≡ false
          → Moved from (cond b at (after_steps rule v count (after_step rule v at))) (so_far + suc count)
      by true e on going = absurd (true≢false (sym e ∙ going))
      by false e on going =
          let more : so_far + 1 + count ≡ so_far + suc count = omega arith in
          subst (Moved from (after_steps rule v count (after_step rule v at))) more (on going)

-- a block that is next is smaller than the docket, since choice 0 is settled
small_block : (v : View) (at : Standing) → Placed v at → at.settled < choices v → at.free < length v.packages
small_block v at placed below =
    let block = placed.block below in
    power-smaller at.free (length v.packages) at.settled (le_of_dvd placed.some (dvd_of_mod-eq-zero (2 ^ at.free) block.zeros)) below

-- an awarded round stays so until it is reopened
awarded_stays : (all : Entries) (v : View) (at : Standing) (more : List Call) → some_accepted reopens (plain_round all (IsAwarded v at)) more ≡ false
    → settled_in (after_from (plain_round all (IsAwarded v at)) more).state ≡ at.settled
awarded_stays all v at [] none = refl
awarded_stays all v at (File n offer ∷ more) none = awarded_stays all v at more none
awarded_stays all v at (Withdraw k n ∷ more) none = awarded_stays all v at more none
awarded_stays all v at (CatchUp sheet ∷ more) none = awarded_stays all v at more none
awarded_stays all v at (Close price ∷ more) none = awarded_stays all v at more none
awarded_stays all v at (Search rule count ∷ more) none = awarded_stays all v at more none
awarded_stays all v at (Reopen ∷ more) none = absurd (true≢false none)
awarded_stays all v at (ReadAward lent ∷ more) none = awarded_stays all v at more none
awarded_stays all v at (ReadFees rates lent ∷ more) none = awarded_stays all v at more none
awarded_stays all v at (WriteSheet buffer ∷ more) none = awarded_stays all v at more none

-- as many steps as there are packages settle a choice, over any calls but a reopening
pub settles : (all : Entries) (v : View) (from at : Standing) (so_far : ℕ) (more : List Call) → Placed v from → from.settled < choices v → Moved from at so_far
    → some_accepted reopens (plain_round all (IsClosed v at)) more ≡ false
    → length v.packages ≤ so_far + steps_given (plain_round all (IsClosed v at)) more
    → from.settled < settled_in (after_from (plain_round all (IsClosed v at)) more).state
settles all v from at so_far [] placed below moved none enough =
    ⊎_elim (λ (h : from.settled < at.settled). h) (λ (h : at.settled ≤ from.settled). absurd (omega (arith, small_block v from placed below, moved.smaller h))) (cases_lt from.settled at.settled)
settles all v from at so_far (File n offer ∷ more) placed below moved none enough = settles all v from at so_far more placed below moved none (omega arith)
settles all v from at so_far (Withdraw k n ∷ more) placed below moved none enough = settles all v from at so_far more placed below moved none (omega arith)
settles all v from at so_far (CatchUp sheet ∷ more) placed below moved none enough = settles all v from at so_far more placed below moved none (omega arith)
settles all v from at so_far (Close price ∷ more) placed below moved none enough = settles all v from at so_far more placed below moved none (omega arith)
settles all v from at so_far (Reopen ∷ more) placed below moved none enough = absurd (true≢false none)
settles all v from at so_far (ReadAward lent ∷ more) placed below moved none enough = settles all v from at so_far more placed below moved none (omega arith)
settles all v from at so_far (ReadFees rates lent ∷ more) placed below moved none enough = settles all v from at so_far more placed below moved none (omega arith)
settles all v from at so_far (WriteSheet buffer ∷ more) placed below moved none enough = settles all v from at so_far more placed below moved none (omega arith)
settles all v from at so_far (Search rule count ∷ more) placed below moved none enough =
    by (within 1 1000000 count) (settles all v from at so_far more placed below moved)
    (settles all v from (after_steps rule v count at) (so_far + count) more placed below)
    none enough
  where
    to : Standing
    to = after_steps rule v count at

    ended : (b : Bool) → finished v to ≡ b
        → (Moved from to (so_far + count) → some_accepted reopens (plain_round all (IsClosed v to)) more ≡ false → length v.packages ≤ so_far + count + steps_given (plain_round all (IsClosed v to)) more
        → from.settled < settled_in (after_from (plain_round all (IsClosed v to)) more).state)
        → some_accepted reopens (plain_round all (cond b (IsAwarded v to) (IsClosed v to))) more ≡ false
        → length v.packages ≤ so_far + (count + steps_given (plain_round all (cond b (IsAwarded v to) (IsClosed v to))) more)
        → from.settled < settled_in (after_from (plain_round all (cond b (IsAwarded v to) (IsClosed v to))) more).state
    ended true e on none enough =
        let all_settled = eqb-true to.settled (choices v) e in
        let still = awarded_stays all v to more none in
        omega arith
    ended false e on none enough = on (steps_move rule v from at count so_far moved e) none (omega arith)

    by : (b : Bool)
        → (some_accepted reopens (plain_round all (IsClosed v at)) more ≡ false → length v.packages ≤ so_far + steps_given (plain_round all (IsClosed v at)) more
        → from.settled < settled_in (after_from (plain_round all (IsClosed v at)) more).state)
        → (Moved from to (so_far + count) → some_accepted reopens (plain_round all (IsClosed v to)) more ≡ false → length v.packages ≤ so_far + count + steps_given (plain_round all (IsClosed v to)) more
        → from.settled < settled_in (after_from (plain_round all (IsClosed v to)) more).state)
        → some_accepted reopens (cond b (searched all v to) (told all (IsClosed v at) (Found (Err (code_only StepsOutside))))).after more ≡ false
        → length v.packages ≤ so_far + (steps_of (Search rule count) (accepted (cond b (searched all v to) (told all (IsClosed v at) (Found (Err (code_only StepsOutside))))).answer) + steps_given (cond b (searched all v to) (told all (IsClosed v at) (Found (Err (code_only StepsOutside))))).after more)
        → from.settled < settled_in (after_from (cond b (searched all v to) (told all (IsClosed v at) (Found (Err (code_only StepsOutside))))).after more).state
    by true stay on none enough = ended (finished v to) refl on none enough
    by false stay on none enough = stay none (omega arith)
