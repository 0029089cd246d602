-- What the loop of `values` keeps true: the values are those of the bands so far.
use Rattle.std.proofs.Common.{◌≡◌, take}
use Rattle.fees.proofs.Values.{bought_so_far}
use Rattle.fees.proofs.charges.values.Given as goal

abbrev pub invariant-loop-band : goal.invariant-loop-band
invariant-loop-band l =
    l.values ≡ bought_so_far l.supply (take l.band-index l.band-items)
