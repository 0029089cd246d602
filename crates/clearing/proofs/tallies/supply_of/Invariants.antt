-- What the loop of `supply_of` keeps true: the sums are the supplies of the first so many that are taken.
use Rattle.std.proofs.Common.{◌≡◌, length, take}
use Rattle.clearing.specs.Choices.{taken, supply}
use Rattle.clearing.specs.Tallies.{row}
use Rattle.clearing.proofs.tallies.supply_of.Given as goal

abbrev pub invariant-loop-package : goal.invariant-loop-package
invariant-loop-package l =
    l.sums ≡ row (λ m. supply m (take (length l.yielded) (taken l.docket.packages l.choice))) 1 5
