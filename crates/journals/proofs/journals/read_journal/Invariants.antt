use Rattle.std.proofs.Common.{◌≡◌, ◌+◌, ◌≤◌, length, map}
use Rattle.journals.specs.Journals.{journal_from, journal_in}
use Rattle.journals.specs.Lines.{said}
use Rattle.journals.specs.Words.{lines_left}
use Rattle.journals.proofs.Journaling.{after}
use Rattle.journals.proofs.Parting.{size_left}
use Rattle.journals.proofs.journals.read_journal.Given as goal

-- the lines so far and those that are left; each line takes a byte, so their number fits
abbrev pub invariant-loop-rest : goal.invariant-loop-rest
invariant-loop-rest l =
    record {
      told : after (map said l.lines.items) (journal_from l.number (lines_left l.rest)) ≡ journal_in l.fn.text;
      few : l.number + size_left l.rest ≤ length l.fn.text + 2;
    }

abbrev pub decreases-loop-rest : goal.decreases-loop-rest
decreases-loop-rest l = size_left l.rest
