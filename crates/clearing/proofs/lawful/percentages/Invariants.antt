-- What the loop of `percentages` keeps true: each is the one that binds by the limits so far.
use Rattle.std.proofs.Common.{◌≡◌, take}
use Rattle.clearing.specs.Lawful.{percentage}
use Rattle.clearing.specs.Tallies.{row}
use Rattle.clearing.proofs.lawful.percentages.Given as goal

abbrev pub invariant-loop-limit : goal.invariant-loop-limit
invariant-loop-limit l = l.least ≡ row (percentage (take l.limit-index l.limit-items)) 1 4
