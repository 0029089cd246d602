use Rattle.std.proofs.Common.{◌≡◌, ◌-◌, take, length}
use Rattle.journals.specs.Readers.{unread}
use Rattle.journals.specs.Stacks.{signeds_at}
use Rattle.journals.proofs.ZoneTexts.{after}
use Rattle.journals.proofs.stacks.reading.sixteen.Given as goal

-- the numbers so far, and those that are still to be read
abbrev pub invariant-loop-place : goal.invariant-loop-place
invariant-loop-place l =
    record {
      long : length l.numbers ≡ 16;
      told : after (take l.place l.numbers) (signeds_at (16 - l.place) (unread l.words)) ≡ signeds_at 16 (unread l.fn.words);
    }
