-- What the loop of `sold_above` keeps true: the sum is that over the bands so far, each of which adds at most the greatest quantity at the greatest price.
use Rattle.std.proofs.Common.{◌≡◌, ◌≤◌, ◌*◌, take}
use Rattle.bounds.specs.Rules.{sold_above}
use Rattle.bounds.proofs.tangent.sold_above.Given as goal

abbrev pub invariant-loop-place : goal.invariant-loop-place
invariant-loop-place l =
    (l.above ≡ sold_above l.multipliers (take l.place l.band-items) l.less l.more)
    × (l.above ≤ 1000000000000000 * l.place)
