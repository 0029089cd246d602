-- The calls that lines stand for, and what is shown of their buffers.
use Rattle.offers.specs.Tables.{PACKAGES, BANDS, PAIRS, EXCLUSIONS, LIMITS}
use Rattle.std.specs.Prelude.{ℕ, ◌+◌, ◌*◌, map, replicate, Some, None, Option}
use Rattle.pricing.specs.Prices.{filed_price, place_price, currency_price, Meaning}
use Rattle.bounds.specs.Blocks.{Answers}
use Rattle.bounds.specs.Rules.{chained, named}
use Rattle.rounds.specs.Model as model
use Rattle.rounds.specs.Model.{Call}
use Rattle.journals.specs.declared.lines.Shown.{Shown}
use Rattle.journals.specs.declared.lines.Shown.TheVariants as shown
use Rattle.journals.specs.Chains.{Rules}
use Rattle.journals.specs.Lines.{Said, File, Withdraw, CatchUp, Close, Search, Reopen, Award, Fees, Sheet}
use Rattle.journals.specs.Stacks.{PlainStack, Filed, Place, Currency}

-- what the rules of a stack mean; the filed rule stands at depth 1
abbrev pub meaning_of : PlainStack → Meaning
meaning_of Filed p = filed_price p
meaning_of (Place zones) p = place_price zones 2 (filed_price p) p
meaning_of (Currency preference expectation zones) p =
    currency_price preference expectation 3 (place_price zones 2 (filed_price p) p) p

-- what joined rules mean
abbrev pub answers_of : Rules → Answers
answers_of rules = chained (named rules.first) (map named rules.others)

-- the bytes of a sheet of a round that holds an offer under every number: for each kind so many fields of so many bytes
abbrev pub fullest : ℕ
fullest = PACKAGES * 36 + BANDS * 15 + PAIRS * 7 + EXCLUSIONS * 7 + LIMITS * 11

-- the length of the buffer that is lent
abbrev pub buffer_length : Option ℕ → ℕ
buffer_length None = fullest
buffer_length (Some length) = length

-- the call that a line stands for; rows and buffers are lent full of zeros
abbrev pub call_said : Said → Call
call_said (File n offer) = model.File n offer
call_said (Withdraw k n) = model.Withdraw k n
call_said (CatchUp bytes) = model.CatchUp bytes
call_said (Close plain_stack) = model.Close (meaning_of plain_stack)
call_said (Search rules steps) = model.Search (answers_of rules) steps
call_said Reopen = model.Reopen
call_said (Award length) = model.ReadAward (replicate length 0)
call_said (Fees rates length) = model.ReadFees rates (replicate length 0)
call_said (Sheet length) = model.WriteSheet (replicate (buffer_length length) 0)

-- of a buffer whose length is not said only the sheet's own bytes are shown: a sheet fills the first bytes, so they are what a
-- buffer as long as the sheet would hold
abbrev pub shown_of : Said → Shown
shown_of (Sheet None) = shown.Filled
shown_of said = shown.Whole
