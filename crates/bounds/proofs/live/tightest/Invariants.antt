-- What the loop of `tightest` keeps true: each is the least of the limits so far.
use Rattle.std.proofs.Common.{◌≡◌, take}
use Rattle.offers.specs.Marks.{sort_byte}
use Rattle.clearing.specs.Tallies.{row}
use Rattle.bounds.specs.Live.{tightest}
use Rattle.bounds.proofs.live.tightest.Given as goal

abbrev pub invariant-loop-limit : goal.invariant-loop-limit
invariant-loop-limit l = l.least ≡ row (tightest (sort_byte l.sort) (take l.limit-index l.limit-items)) 1 16
