-- A journal: the calls of its lines in order, or the first line that is none and why.
use Rattle.std.specs.Prelude.{◌≡◌, ℕ, ◌+◌, List, [], ◌∷◌, Some, None, Option, Ok, Err, Result}
use Rattle.std.specs.Option.{option_map}
use Rattle.journals.specs.declared.journals.JournalError.{JournalError}
use Rattle.journals.specs.declared.journals.JournalError.TheVariants as error
use Rattle.journals.specs.declared.journals.Mistake.{Mistake}
use Rattle.journals.specs.declared.lines.Line.{Line}
use Rattle.journals.specs.declared.wrongs.Wrong.{Wrong}
use Rattle.journals.specs.Lines.{Said, said, said_in}
use Rattle.journals.specs.Words.{lines_in}

-- a line before others
abbrev pub before : Said → Result (List Said) Mistake → Result (List Said) Mistake
before s (Ok lines) = Ok (s ∷ lines)
before s (Err mistake) = Err mistake

-- what a line, number n of its journal, says, and then what the lines after it say
abbrev pub followed_by : ℕ → Result (Option Said) Wrong → Result (List Said) Mistake → Result (List Said) Mistake
followed_by n (Err wrong) rest = Err (record { line = n; wrong = wrong })
followed_by n (Ok None) rest = rest
followed_by n (Ok (Some s)) rest = before s rest

-- what lines say, the first of them being number n
abbrev pub journal_from : ℕ → List (List ℕ) → Result (List Said) Mistake
journal_from n [] = Ok []
journal_from n (line ∷ lines) = followed_by n (said_in line) (journal_from (n + 1) lines)

-- what a text says; its lines are numbered from 1, those that are passed over too
abbrev pub journal_in : List ℕ → Result (List Said) Mistake
journal_in text = journal_from 1 (lines_in text)

-- what was read of a journal, seen by view, unless memory ran out
abbrev pub ReadsJournal : {X : Type 0} → (X → List Said) → Result X JournalError → Result (List Said) Mistake → Type 0
ReadsJournal view (Ok lines) journal = journal ≡ Ok (view lines)
ReadsJournal view (Err (error.Mistake mistake)) journal = journal ≡ Err mistake
ReadsJournal view (Err error.OutOfMemory) journal = Unit {0}

-- the same of one line, number n of its journal
abbrev pub ReadsLine : ℕ → Result (Option Line) JournalError → Result (Option Said) Wrong → Type 0
ReadsLine n (Ok line) reading = reading ≡ Ok (option_map said line)
ReadsLine n (Err (error.Mistake mistake)) reading = (mistake.line ≡ n) × (reading ≡ Err mistake.wrong)
ReadsLine n (Err error.OutOfMemory) reading = Unit {0}
