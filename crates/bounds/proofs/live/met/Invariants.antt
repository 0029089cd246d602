-- What the loop of `met` keeps true: by the pairs so far each needed package is possible.
use Rattle.std.proofs.Common.{◌≡◌, take}
use Rattle.offers.specs.declared.records.Pair.{Pair}
use Rattle.clearing.specs.Tallies.{row}
use Rattle.bounds.specs.Live.{cleared, needs}
use Rattle.bounds.proofs.live.met.Given as goal

abbrev pub invariant-loop-pair : goal.invariant-loop-pair
invariant-loop-pair l = l.met ≡ row (cleared (λ (p : Pair). p.dependent) (needs l.possible.takes) (take l.pair-index l.pair-items)) 0 41
