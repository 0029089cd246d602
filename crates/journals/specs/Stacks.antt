-- Stacks of price rules as words. A rule is made of checked numbers only.
use Rattle.std.specs.Prelude.{ℕ, zero, suc, ℤ, List, [], ◌∷◌, Ok, Err, if◌then◌else◌}
use Rattle.pricing.specs.Numbers.{zone_numbers, currency_rates}
use Rattle.journals.specs.declared.names.Top.{Top}
use Rattle.journals.specs.declared.names.Top.TheVariants as top
use Rattle.journals.specs.declared.stacks.Stack.{Stack}
use Rattle.journals.specs.declared.stacks.Stack.TheVariants as stack
use Rattle.journals.specs.declared.wrongs.Wrong.TheVariants.{UnknownRule, RuleNumberOutside}
use Rattle.journals.specs.Names.{stacks}
use Rattle.journals.specs.Readers.{Reading, name_at, number_at, signed_at}
use Rattle.journals.specs.Wrongs.{◌>>=◌}

-- A stack of price rules as plain numbers: the filed rule; place on it, with a number for each zone; currency on both, with
-- preference and expectation.
pub data PlainStack : Type 0 where
  Filed : PlainStack
  Place : List ℤ → PlainStack
  Currency : ℕ → ℕ → List ℤ → PlainStack

abbrev pub plain_stack : Stack → PlainStack
plain_stack stack.Filed = Filed
plain_stack (stack.Place numbers) = Place numbers.numbers
plain_stack (stack.Currency weighing numbers) = Currency weighing.preference weighing.expectation numbers.numbers

-- so many signed numbers
unfoldable pub signeds_at : ℕ → List (List ℕ) → Reading (List ℤ)
signeds_at zero words = Ok ([], words)
signeds_at (suc n) words = do
  z ← signed_at words
  zs ← signeds_at n z.1
  Ok (z.0 ∷ zs.0, zs.1)

-- a number for each of the 16 price zones, in range
unfoldable pub zones_at : List (List ℕ) → Reading (List ℤ)
zones_at words = do
  zs ← signeds_at 16 words
  (if zone_numbers zs.0 then Ok zs else Err RuleNumberOutside)

-- preference and expectation, in range
unfoldable pub weighing_at : List (List ℕ) → Reading (ℕ × ℕ)
weighing_at words = do
  preference ← number_at 4 words
  expectation ← number_at 4 preference.1
  (if currency_rates preference.0 expectation.0 then (Ok ((preference.0, expectation.0), expectation.1)) else Err RuleNumberOutside)

-- the numbers of a stack's rules, the highest rule's first
abbrev pub plain_at : Top → List (List ℕ) → Reading PlainStack
plain_at top.Filed words = Ok (Filed, words)
plain_at top.Place words = do
  zones ← zones_at words
  Ok (Place zones.0, zones.1)
plain_at top.Currency words = do
  weighing ← weighing_at words
  zones ← zones_at weighing.1
  Ok (Currency weighing.0.0 weighing.0.1 zones.0, zones.1)

unfoldable pub stack_at : List (List ℕ) → Reading PlainStack
stack_at words = do
  top ← name_at UnknownRule stacks words
  plain_at top.0 top.1
