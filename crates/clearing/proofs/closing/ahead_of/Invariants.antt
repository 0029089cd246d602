-- What the loop of `ahead_of` keeps true: the sum is that over the entries so far, each of which adds at most the greatest quantity.
use Rattle.std.proofs.Common.{◌≡◌, ◌+◌, ◌*◌, ◌≤◌}
use Rattle.clearing.proofs.Openings.{ahead_so_far}
use Rattle.clearing.proofs.closing.ahead_of.Given as goal

abbrev pub invariant-loop-i : goal.invariant-loop-i
invariant-loop-i l =
    (l.ahead ≡ ahead_so_far l.ledger l.i (record { number = l.at + 1; terms = l.band }))
    × (l.ahead ≤ 100000000 * l.i)
