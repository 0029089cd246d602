use Rattle.std.proofs.Common.{◌≡◌, ◌<◌, ◌^◌, drop}
use Rattle.journals.specs.Numbers.{value_on}
use Rattle.journals.proofs.numbers.u64_of.Given as goal

abbrev pub invariant-loop-digit : goal.invariant-loop-digit
invariant-loop-digit l =
    record {
      fits : l.number < 2 ^ 64;
      rest : value_on l.number (drop l.digit-index l.word) ≡ value_on 0 l.word;
    }
