-- What the loop of `consult` keeps true: the cap so far counts the gains of the digits so far, and each adds at most twice a surplus.
use Rattle.std.proofs.Common.{◌≡◌, ◌+◌, ◌*◌, pos, negsuc, ◌+ℤ◌, ◌≤ℤ◌}
use Rattle.bounds.specs.Rules.{unlimited, lone_gains}
use Rattle.bounds.proofs.one_by_one.OneByOneBoundingRule.consult.Given as goal

abbrev pub invariant-loop-digit : goal.invariant-loop-digit
invariant-loop-digit l =
    (l.cap ≡ unlimited l.docket l.block-inside.first +ℤ lone_gains l.docket l.block-inside.first l.digit)
    × (negsuc 799999999999 ≤ℤ l.cap)
    × (l.cap ≤ℤ pos (64000800000000000 + 64001600000000000 * l.digit))
