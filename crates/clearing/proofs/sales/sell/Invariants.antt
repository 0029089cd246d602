-- What the loop of `sell` keeps true: the sales are those to the bands so far.
use Rattle.std.proofs.Common.{◌≡◌, take}
use Rattle.clearing.specs.Sales.{sales_of}
use Rattle.clearing.proofs.sales.sell.Given as goal

abbrev pub invariant-loop-band : goal.invariant-loop-band
invariant-loop-band l = l.sales ≡ sales_of (take l.band-index l.band-items) l.supply
