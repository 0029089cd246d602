-- What the loop of `gains_above` keeps true: the sum is that over the packages so far, each of which adds no more than any multipliers can.
use Rattle.std.proofs.Common.{◌≡◌, ◌*◌, length, take, pos, ◌≤ℤ◌}
use Rattle.clearing.specs.Choices.{taken}
use Rattle.bounds.specs.Rules.{gains_above}
use Rattle.bounds.proofs.tangent.gains_above.Given as goal

abbrev pub invariant-loop-package : goal.invariant-loop-package
invariant-loop-package l = record {
  counted : l.above ≡ gains_above l.multipliers (take (length l.yielded) (taken l.docket.packages l.choice));
  low : pos 0 ≤ℤ l.above;
  high : l.above ≤ℤ pos (100000000000000000 * length l.yielded);
}
