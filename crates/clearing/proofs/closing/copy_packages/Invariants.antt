-- What the loop of `copy_packages` keeps true: the open packages so far stand there, each in range.
use Rattle.clearing.specs.Ranges.{package_fits}
use Rattle.clearing.proofs.Copies.{Copied}
use Rattle.clearing.proofs.Pricings.{at_price}
use Rattle.clearing.proofs.closing.copy_packages.Given as goal

abbrev pub invariant-loop-i : goal.invariant-loop-i
invariant-loop-i l = Copied package_fits (at_price l.prices) l.ledger l.i l.into
