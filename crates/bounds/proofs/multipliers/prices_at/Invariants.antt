-- What the loop of `prices_at` keeps true: the prices are those of the bands so far.
use Rattle.std.proofs.Common.{◌≡◌, ◌-◌, get_or, take}
use Rattle.clearing.specs.Tallies.{row}
use Rattle.bounds.specs.Multipliers.{price_at}
use Rattle.bounds.proofs.multipliers.prices_at.Given as goal

abbrev pub invariant-loop-band : goal.invariant-loop-band
invariant-loop-band l = l.prices ≡ row (λ m. price_at (take l.band-index l.band-items) m (get_or l.amounts (m - 1) 0)) 1 5
