-- What a run of a journal writes.
use Rattle.std.specs.Prelude.{◌≡◌, ℕ, Bool, true, false, List, [], ◌∷◌, ◌++◌, map, zip, flat_map, Ok, Err, Result, Option, IfSome}
use Rattle.std.specs.Io.KnownBytes.{Appends}
use Rattle.rounds.specs.Model.{PlainMoment, open_and_vacant, moments_from}
use Rattle.rounds.specs.Promises.{Promised}
use Rattle.journals.specs.declared.journals.Mistake.{Mistake}
use Rattle.journals.specs.declared.lines.Shown.{Shown}
use Rattle.journals.specs.Answers.{answer_text}
use Rattle.journals.specs.Calls.{call_said, shown_of}
use Rattle.journals.specs.Journals.{journal_in}
use Rattle.journals.specs.Lines.{Said}
use Rattle.journals.specs.Mistakes.{mistake_text}

abbrev pub line_end : List ℕ
line_end = 10 ∷ []

-- a moment as a line: its answer, what is shown of its buffer, and where the round stands after it
abbrev pub answer_line : Shown × PlainMoment → List ℕ
answer_line told = answer_text told.0 told.1.stage told.1.answer ++ line_end

-- a line for each moment
abbrev pub transcript_of : List Shown → List PlainMoment → List ℕ
transcript_of shown moments = flat_map answer_line (zip shown moments)

-- the line of each call's answer, the calls made one after another from an open and vacant round
abbrev pub transcript : List Said → List ℕ
transcript lines = transcript_of (map shown_of lines) (moments_from open_and_vacant (map call_said lines))

abbrev pub mistake_line : Mistake → List ℕ
mistake_line mistake = mistake_text mistake ++ line_end

-- What is shown, and the moments of a run, are those of the lines' calls; and all is promised of them.
pub record Replayed (lines : List Said) (shown : List Shown) (moments : List PlainMoment) : Type 0 where
  pub shown_so : shown ≡ map shown_of lines
  pub made : moments ≡ moments_from open_and_vacant (map call_said lines)
  pub promised : Promised (map call_said lines)

-- What answers a journal, and whether it has a mistake: of one whose lines are all calls, a line for each call, and all that is
-- promised of a run is so of theirs; else the first mistake.
abbrev pub AnswersLines : Result (List Said) Mistake → Bool → List ℕ → Type 0
AnswersLines (Ok lines) mistaken text = (mistaken ≡ false) × (text ≡ transcript lines) × Promised (map call_said lines)
AnswersLines (Err mistake) mistaken text = (mistaken ≡ true) × (text ≡ mistake_line mistake)

-- A journal is read and answered. Of the reader it takes the bytes that were left, of the writer those that it held before and
-- after, where they are known.
pub record Ran (left before after : Option (List ℕ)) (mistaken : Bool) : Type 0 where
  -- the journal is all that was left
  pub journal : List ℕ
  pub read : IfSome left (λ all. journal ≡ all)
  -- the text answers it
  pub text : List ℕ
  pub answers : AnswersLines (journal_in journal) mistaken text
  -- and it is what is written, and nothing else
  pub written : Appends before after text
