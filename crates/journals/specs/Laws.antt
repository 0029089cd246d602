-- What writing and reading owe each other.
use Rattle.std.specs.Prelude.{◌≡◌, List, length, replicate, Some, Ok}
use Rattle.std.specs.List.{AllByRecursion as Every}
use Rattle.offers.specs.Memory.{Entries, Sound}
use Rattle.sheets.specs.Writing.{sheet_of}
use Rattle.rounds.specs.Model.{PlainStage, written}
use Rattle.journals.specs.declared.lines.Shown.TheVariants.{Whole, Filled}
use Rattle.journals.specs.Answers.{answer_text}
use Rattle.journals.specs.Calls.{fullest}
use Rattle.journals.specs.Journals.{journal_in}
use Rattle.journals.specs.Lines.{Said, said_in}
use Rattle.journals.specs.Texts.{line_text, journal_text, Fits}

-- the text of a line says just what was written
abbrev pub LinesReadBack : Type 0
LinesReadBack = (s : Said) → Fits s → said_in (line_text s) ≡ Ok (Some s)

-- and so does a journal, line by line
abbrev pub JournalsReadBack : Type 0
JournalsReadBack = (lines : List Said) → Every Fits lines → journal_in (journal_text lines) ≡ Ok lines

-- a line that asks for a sheet and says no length is answered as if it had lent a buffer just as long as the sheet
abbrev pub SheetsShown : Type 0
SheetsShown = (all : Entries) (stage : PlainStage) → Sound all →
    answer_text Filled stage (written all (replicate fullest 0)) ≡ answer_text Whole stage (written all (replicate (length (sheet_of all)) 0))
