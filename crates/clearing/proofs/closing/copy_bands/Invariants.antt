-- What the loop of `copy_bands` keeps true: the open bands so far stand there, each in range.
use Rattle.clearing.specs.Ranges.{band_fits}
use Rattle.clearing.proofs.Copies.{Copied}
use Rattle.clearing.proofs.Openings.{with_ahead}
use Rattle.clearing.proofs.closing.copy_bands.Given as goal

abbrev pub invariant-loop-i : goal.invariant-loop-i
invariant-loop-i l = Copied band_fits (with_ahead l.ledger) l.ledger l.i l.into
