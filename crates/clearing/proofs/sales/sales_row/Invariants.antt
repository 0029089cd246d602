-- What the loop of `sales_row` keeps true: the row has what each band so far is sold.
use Rattle.std.proofs.Common.{◌≡◌, take}
use Rattle.clearing.specs.Sales.{sale_of}
use Rattle.clearing.specs.Tallies.{row}
use Rattle.clearing.proofs.sales.sales_row.Given as goal

abbrev pub invariant-loop-band : goal.invariant-loop-band
invariant-loop-band l = l.row ≡ row (sale_of (take l.band-index l.band-items) l.supply) 1 64
