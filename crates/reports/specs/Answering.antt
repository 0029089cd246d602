-- What answers the bytes of a sheet. Nothing here searches.
use Rattle.std.specs.Prelude.{◌≡◌, ℕ, ◌≤◌, Bool, true, false, List, length, take, Ok, Err, Result, Option, IfSome}
use Rattle.std.specs.Io.KnownBytes.{Appends}
use Rattle.offers.specs.declared.refusals.Refusal.{Refusal}
use Rattle.offers.specs.Memory.{Entries, all_vacant}
use Rattle.offers.specs.Registers.{Outcome}
use Rattle.sheets.specs.Reading.{catch_up, and_then}
use Rattle.pricing.specs.Prices.{filed_price}
use Rattle.clearing.specs.Closing.{closing}
use Rattle.clearing.specs.Lawful.{View, nothing_open, Best}
use Rattle.reports.specs.Text.{award_text, refused_text}

-- the docket of a closing, or why it has none
abbrev pub closed_docket : Result Unit Refusal → View → Result View Refusal
closed_docket (Ok done) docket = Ok docket
closed_docket (Err why) docket = Err why

-- the docket of offers at their prices as filed
abbrev pub filed_docket : Entries → Result View Refusal
filed_docket all = let o : Outcome View = closing nothing_open all filed_price in closed_docket o.answer o.after

-- the docket of a sheet: of what is open once a vacant round has caught up with it; or why the sheet is refused
abbrev pub sheet_docket : List ℕ → Result View Refusal
sheet_docket sheet = and_then (catch_up all_vacant sheet) filed_docket

-- A text tells the award of a docket, the best of its choices.
pub record TellsAward (docket : View) (text : List ℕ) : Type 0 where
  pub choice : ℕ
  -- it is lawful, no lawful choice is worth more, and it is the earliest of those worth as much; so there is one such choice
  pub best : Best docket choice
  pub so : text ≡ award_text docket choice

-- what answers a docket, or a refusal
abbrev pub AnswersDocket : Result View Refusal → Bool → List ℕ → Type 0
AnswersDocket (Ok docket) refused text = (refused ≡ false) × TellsAward docket text
AnswersDocket (Err why) refused text = (refused ≡ true) × (text ≡ refused_text (record { 0 = why }))

-- What answers the bytes of a sheet: of one that is refused the text of its refusal, else the text of its award.
abbrev pub AnswersSheet : List ℕ → Bool → List ℕ → Type 0
AnswersSheet sheet = AnswersDocket (sheet_docket sheet)

-- the most bytes of a sheet that are read
abbrev pub MAX_SHEET_BYTES : ℕ
MAX_SHEET_BYTES = 4096

-- A sheet is read and answered. Of the reader it takes the bytes that were left, of the writer those that it held before and after,
-- where they are known.
pub record Answered (left before after : Option (List ℕ)) (refused : Bool) : Type 0 where
  -- the sheet is all that was left, up to 4,096 bytes
  pub sheet : List ℕ
  pub few : length sheet ≤ MAX_SHEET_BYTES
  pub read : IfSome left (λ all. sheet ≡ take MAX_SHEET_BYTES all)
  -- the text answers it, as no other does
  pub text : List ℕ
  pub answers : AnswersSheet sheet refused text
  pub only : (other : Bool) (told : List ℕ) → AnswersSheet sheet other told → (other ≡ refused) × (told ≡ text)
  -- and it is what is written, and nothing else
  pub written : Appends before after text
