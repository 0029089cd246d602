-- What the loop of `next` keeps true: no package that is taken was passed over. Each turn leaves fewer packages.
use Rattle.std.proofs.Common.{◌≡◌, length}
use Rattle.clearing.specs.Choices.{still_taken}
use Rattle.clearing.proofs.choices.TakenIterator.next.Given as goal

abbrev pub invariant-loop-package : goal.invariant-loop-package
invariant-loop-package l = still_taken l.self ≡ still_taken l.fn.self

abbrev pub decreases-loop-package : goal.decreases-loop-package
decreases-loop-package l = length l.self.packages.now
