-- A search stays placed in its docket, a step skips, halves or tries its next block, and each that settles nothing leaves a smaller one.
use Rattle.std.proofs.Common.{◌≡◌, ℕ, zero, suc, ◌+◌, ◌-◌, ◌%◌, ◌^◌, ◌<◌, ◌≤◌, true, false, ltb, length, ℤ, Some, None, Option, refl, ⊎_elim, mod-eq_of_lt, arith, pow_pos}
use lib.Signed.{lt_z}
use Rattle.std.proofs.lemmas.Bool.{cases_lt, cond_both, cond-true, cond-false, ltb-true, ltb-false, ne_eqb}
use Rattle.clearing.specs.Judging.{worth_of}
use Rattle.clearing.specs.Lawful.{View, choices}
use Rattle.bounds.specs.Blocks.{Answers}
use Rattle.bounds.specs.Laws.OneByOne.{divides_less}
use Rattle.search.specs.Search.{Standing, Placed, start_position, next_block, can_skip, after_settling, after_halving, after_trial, after_step, finished, after_steps}
use Rattle.search.proofs.Zeros.{trailing_divides, trailing_small, power_room, power-smaller}

-- whoever leads, as many are settled
pub lead_settled : (at : Standing) (worth : Option ℤ) → (after_trial at worth).settled ≡ at.settled
lead_settled at None = refl
lead_settled at (Some worth) = cond_both (lt_z at.surplus worth) _ _ (λ (a : Standing). a.settled ≡ at.settled) (λ _. refl) (λ _. refl)

-- As many steps have settled no less, and where they settled nothing, the next block has a free digit less for each.
pub record Moved (from at : Standing) (count : ℕ) : Type 0 where
  pub lasts : from.settled ≤ at.settled
  pub smaller : at.settled ≤ from.settled → at.free + count ≤ from.free

-- as many moves as there are packages settle a choice: no block of a docket has so many free digits behind a settled choice
pub settles : (v : View) (from at : Standing) (count : ℕ) → Placed v from → from.settled < choices v → length v.packages ≤ count → Moved from at count
    → from.settled < at.settled
settles v from at count placed below few moved =
    let b = placed.block below in
    ⊎_elim (λ (on : from.settled < at.settled). on)
    (λ (still : at.settled ≤ from.settled).
    let all : from.free ≡ length v.packages = omega (arith, moved.smaller still, b.few) in
    let none : from.settled % 2 ^ length v.packages ≡ 0 = rw all at b.zeros in
    absurd (omega (arith, placed.some, mod-eq_of_lt below)))
    (cases_lt from.settled at.settled)

module _ (v : View) where
  -- a search starts placed
  pub start-placed : Placed v start_position
  start-placed = record {
    some = omega arith;
    most = pow_pos (length v.packages);
    block = λ below. record { few = omega arith; zeros = refl; below = below };
  }

  -- with more choices settled it stays placed, whatever the next block was
  more_placed : (at : Standing) (more : ℕ) → 1 ≤ at.settled → at.settled + more ≤ choices v → Placed v (after_settling at more)
  more_placed at more some most = record {
    some = omega arith;
    most = most;
    block = λ below. record {
      few =
          let small = trailing_small 64 (at.settled + more) (omega arith) in
          omega (arith, power-smaller _ (length v.packages) _ small below);
      zeros = trailing_divides 64 (at.settled + more);
      below = below;
    };
  }

  -- the next block lies within the docket
  pub block_inside : (at : Standing) → Placed v at → at.settled < choices v → at.settled + 2 ^ at.free ≤ choices v
  block_inside at placed below =
      let b = placed.block below in
      power_room at.settled at.free (length v.packages) b.zeros below b.few

  -- with the block halved it stays placed
  halve-placed : (at : Standing) → Placed v at → 0 < at.free → Placed v (after_halving at)
  halve-placed at placed some = record {
    some = placed.some;
    most = placed.most;
    block = λ below.
        let b = placed.block below in
        record { few = omega (arith, b.few); zeros = divides_less at.settled (at.free - 1) at.free b.zeros (omega arith); below = below };
  }

  -- a search with a choice to settle has not finished
  pub not-finished : (at : Standing) → at.settled < choices v → finished v at ≡ false
  not-finished at below = ne_eqb at.settled (choices v) (λ e. omega arith)

module _ (rule : Answers) (v : View) where
  -- a step is one of three: the block is skipped if it is hopeless, else halved if it has free digits, else its choice is tried
  pub step_cases : (P : Standing → Type 0) (at : Standing)
      → (can_skip (rule v (next_block at)) at.surplus ≡ true → P (after_settling at (2 ^ at.free)))
      → (0 < at.free → P (after_halving at))
      → (at.free ≡ 0 → P (after_settling (after_trial at (worth_of v at.settled)) 1))
      → P (after_step rule v at)
  step_cases P at skip half try =
      cond_both (can_skip (rule v (next_block at)) at.surplus) _ _ P skip
      (λ _. cond_both (ltb 0 at.free) _ _ P (λ e. half (ltb-true 0 at.free e)) (λ e. try (omega (arith, ltb-false 0 at.free e))))

  -- a step leaves the search placed
  pub step-placed : (at : Standing) → Placed v at → at.settled < choices v → Placed v (after_step rule v at)
  step-placed at placed below =
      let same = lead_settled at (worth_of v at.settled) in
      step_cases (Placed v) at
      (λ _. more_placed v at (2 ^ at.free) placed.some (block_inside v at placed below))
      (halve-placed v at placed)
      (λ _. more_placed v (after_trial at (worth_of v at.settled)) 1 (rw same placed.some) (rw same (omega arith)))

  -- a finished search stays where it is
  pub finished-stays : (count : ℕ) (at : Standing) → finished v at ≡ true → after_steps rule v count at ≡ at
  finished-stays zero at e = refl
  finished-stays (suc count) at e = cond-true (finished v at) _ _ e

  -- any other goes on
  pub goes_on : (count : ℕ) (at : Standing) → finished v at ≡ false → after_steps rule v (suc count) at ≡ after_steps rule v count (after_step rule v at)
  goes_on count at e = cond-false (finished v at) _ _ e

  -- a step settles some choice, or leaves a smaller block
  step_moves : (at : Standing) → Moved at (after_step rule v at) 1
  step_moves at =
      step_cases (λ a. Moved at a 1) at
      (λ _. record { lasts = omega arith; smaller = λ same. absurd (omega (arith, pow_pos at.free)) })
      (λ some. record { lasts = omega arith; smaller = λ _. omega arith })
      (λ _.
      let settled = lead_settled at (worth_of v at.settled) in
      record { lasts = omega arith; smaller = λ same. absurd (omega arith) })

  -- and one step more is one more
  pub moves_on : (from at : Standing) (count : ℕ) → Moved from at count → Moved from (after_step rule v at) (count + 1)
  moves_on from at count before =
      let next = step_moves at in
      record { lasts = omega arith; smaller = λ same. omega (arith, before.smaller (omega arith), next.smaller (omega arith)) }
