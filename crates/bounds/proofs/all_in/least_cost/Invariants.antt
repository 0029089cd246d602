-- What the loops of `least_cost` keep true: the first so many of the taken packages are counted, and then of the free ones.
use Rattle.std.proofs.Common.{◌≡◌, ◌+ℤ◌, length, take}
use Rattle.clearing.specs.Choices.{cost}
use Rattle.bounds.specs.Rules.{below_zero}
use Rattle.bounds.specs.Blocks.{fixed, free_ones}
use Rattle.bounds.proofs.all_in.least_cost.Given as goal

abbrev pub invariant-loop-package : goal.invariant-loop-package
invariant-loop-package l = l.cost ≡ cost (take (length l.yielded) (fixed l.docket l.fn.block))

abbrev pub invariant-loop-free : goal.invariant-loop-free
invariant-loop-free l =
    l.cost ≡ cost (fixed l.docket l.fn.block) +ℤ below_zero (take (length l.yielded) (free_ones l.docket l.fn.block))
