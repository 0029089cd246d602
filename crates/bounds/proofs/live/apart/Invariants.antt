-- What the loop of `apart` keeps true: by the exclusions so far each has none but itself stand for its group.
use Rattle.std.proofs.Common.{◌≡◌, take}
use Rattle.offers.specs.declared.records.Exclusion.{Exclusion}
use Rattle.clearing.specs.Tallies.{row}
use Rattle.bounds.specs.Live.{cleared, unopposed}
use Rattle.bounds.proofs.live.apart.Given as goal

abbrev pub invariant-loop-exclusion : goal.invariant-loop-exclusion
invariant-loop-exclusion l = l.apart ≡ row (cleared (λ (e : Exclusion). e.member) (unopposed l.heads) (take l.exclusion-index l.exclusion-items)) 0 41
