-- What the loop of `heads` keeps true: each stands for its group by the exclusions so far.
use Rattle.std.proofs.Common.{◌≡◌, take}
use Rattle.clearing.specs.Tallies.{row}
use Rattle.bounds.specs.Live.{head}
use Rattle.bounds.proofs.live.heads.Given as goal

abbrev pub invariant-loop-exclusion : goal.invariant-loop-exclusion
invariant-loop-exclusion l = l.heads ≡ row (head l.tally.takes (take l.exclusion-index l.exclusion-items)) 1 16
