-- The search: what holds wherever it stands, and how a step moves it.
use Rattle.clearing.specs.Closing.{ByClosing}
use Rattle.std.specs.Prelude.{◌≡◌, ℕ, zero, suc, ◌+◌, ◌-◌, ◌*◌, ◌^◌, ◌<◌, ◌≤◌, Bool, true, ℤ, pos, Some, None, Option, ◌==◌, int_le, nat_lt, if◌then◌else◌, length}
use Rattle.std.specs.Int.Count.{count_trailing_zeros}
use Rattle.std.specs.Int.Signed.{lt_z}
use Rattle.clearing.specs.Judging.{worth_of}
use Rattle.clearing.specs.Lawful.{View, BestBelow, surplus, filled_sales, choices}
use Rattle.bounds.specs.Blocks.{Span, Answers, InDocket}

-- Where a search stands, as plain numbers.
pub record Standing : Type 0 where
  -- choices settled: those numbered below this
  pub settled : ℕ
  -- the count of free digits of the block that is next, the rules' k
  pub free : ℕ
  -- the choice that leads, and its surplus in pesos
  pub leader : ℕ
  pub surplus : ℤ

-- a number that falls with each step: more choices are settled, which are at most 2 ^ 41, or the next block is half as long, which
-- has fewer than 64 free digits
abbrev pub work_left : Standing → ℕ
work_left at = (2 ^ 41 - at.settled) * 64 + at.free

-- the block that is next
abbrev pub next_block : Standing → Span
next_block at = record { first = at.settled; free = at.free }

-- A search stands in a docket.
pub record Placed (v : View) (at : Standing) : Type 0 where
  -- some choices are settled, and at most all
  pub some : 1 ≤ at.settled
  pub most : at.settled ≤ choices v
  -- while a choice is unsettled, the next block is a block of the docket
  pub block : at.settled < choices v → InDocket v (next_block at)

-- The leader is the best lawful choice among those numbered below a bound, whatever sales the others are given, and the earliest of
-- equals.
pub record Leading (v : View) (bound : ℕ) (at : Standing) : Type 0 where
  pub best : BestBelow v bound at.leader
  -- and its surplus is known: what it earns with filled sales, less its prices
  pub worth : at.surplus ≡ surplus v at.leader (filled_sales v at.leader)

-- the leader is the best of the settled choices
abbrev pub Leads : View → Standing → Type 0
Leads v at = Leading v at.settled at

-- choice 0, which takes nothing, is settled and leads
abbrev pub start_position : Standing
start_position = record { settled = 1; free = 0; leader = 0; surplus = pos 0 }

-- a block is not worth a look if it has no lawful choice, or none above the leader
abbrev pub can_skip : Option ℤ → ℤ → Bool
can_skip None surplus = true
can_skip (Some cap) surplus = int_le cap surplus

-- so many choices more are settled; the next block has a free digit for each zero that ends their count
abbrev pub after_settling : Standing → ℕ → Standing
after_settling at more = record {
  settled = at.settled + more;
  free = count_trailing_zeros 64 (at.settled + more);
  leader = at.leader;
  surplus = at.surplus;
}

-- the first half of the block is next
abbrev pub after_halving : Standing → Standing
after_halving at = record { settled = at.settled; free = at.free - 1; leader = at.leader; surplus = at.surplus }

-- the next choice leads if it is lawful and worth more than the leader
abbrev pub after_trial : Standing → Option ℤ → Standing
after_trial at None = at
after_trial at (Some worth) =
    if lt_z at.surplus worth then record { settled = at.settled; free = at.free; leader = at.settled; surplus = worth } else at

-- One step: the rule is consulted on the next block, which is then skipped, halved, or, where it has one choice, tried.
abbrev pub after_step : Answers → View → Standing → Standing
after_step rule v at =
    if can_skip (rule v (next_block at)) at.surplus then after_settling at (2 ^ at.free)
    else if nat_lt 0 at.free then after_halving at else after_settling (after_trial at (worth_of v at.settled)) 1

-- every choice is settled
abbrev pub finished : View → Standing → Bool
finished v at = at.settled == choices v

-- so many steps, or fewer if it finishes before
abbrev pub after_steps : Answers → View → ℕ → Standing → Standing
after_steps rule v zero at = at
after_steps rule v (suc count) at =
    let rest : Standing = after_steps rule v count (after_step rule v at) in
    (if finished v at then at else rest)

-- one step of a search that stands in a docket and has not settled all
abbrev pub StepsTo : Answers → View → Standing → Standing → Type 0
StepsTo rule v from to = Placed v from → from.settled < choices v → to ≡ after_step rule v from

-- What a run of so many steps owes, from where it began to where it ends.
pub record Runs (rule : Answers) (v : View) (count : ℕ) (from to : Standing) : Type 0 where
  -- it makes exactly the steps of the rules
  pub steps : to ≡ after_steps rule v count from
  -- it stands in the docket still
  pub placed : Placed v to
  -- as many steps as there are packages settle at least one choice
  pub settles : from.settled < choices v → length v.packages ≤ count → from.settled < to.settled
  -- and a leader that was the best of the settled choices is so again
  pub leads : ByClosing v → Leads v from → Leads v to

-- of a search that stands in the docket
abbrev pub RunsFrom : Answers → View → ℕ → Standing → Standing → Type 0
RunsFrom rule v count from to = Placed v from → Runs rule v count from to
