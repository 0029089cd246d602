-- What the loop of `of` keeps true: the sums are those of the first so many that are taken.
use Rattle.std.proofs.Common.{◌≡◌, length, take}
use Rattle.clearing.specs.Choices.{taken}
use Rattle.clearing.specs.Tallies.{tally_of}
use Rattle.clearing.proofs.tallies.Tally.new.Given as goal

abbrev pub invariant-loop-package : goal.invariant-loop-package
invariant-loop-package l = l.sums ≡ tally_of (take (length l.yielded) (taken l.docket.packages l.choice))
