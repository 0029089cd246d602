-- What the loop of `write_fees` keeps true: the fees so far stand in the row, and the total is theirs.
use Rattle.std.proofs.Common.{◌≡◌, ◌++◌, map, take, drop}
use Rattle.std.specs.List.{sum}
use Rattle.fees.specs.Fees.{fee}
use Rattle.fees.proofs.charges.write_fees.Given as goal

abbrev pub invariant-loop-place : goal.invariant-loop-place
invariant-loop-place l = record {
  row : l.row ≡ map (fee l.rates) (take l.place l.values) ++ drop l.place l.fn.row;
  total : l.total ≡ sum (map (fee l.rates) (take l.place l.values));
}
