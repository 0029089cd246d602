-- What the loop of `asked_above` keeps true: the sums are those over the bands so far.
use Rattle.std.proofs.Common.{◌≡◌, take}
use Rattle.clearing.specs.Tallies.{row}
use Rattle.bounds.specs.Multipliers.{asked_above}
use Rattle.bounds.proofs.multipliers.asked_above.Given as goal

abbrev pub invariant-loop-band : goal.invariant-loop-band
invariant-loop-band l = l.asked ≡ row (asked_above (take l.band-index l.band-items) l.multipliers) 1 5
