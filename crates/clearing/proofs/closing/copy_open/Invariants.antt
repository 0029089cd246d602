-- What the loop of `copy_open` keeps true: the open records so far stand there, each in range.
use Rattle.clearing.specs.Ranges.{fits}
use Rattle.clearing.proofs.Copies.{Copied}
use Rattle.clearing.proofs.closing.copy_open.Given as goal

abbrev pub invariant-loop-entry : goal.invariant-loop-entry
invariant-loop-entry g l =
    Copied (fits g.R.Record.layout) (λ r. r.terms) l.ledger l.entry-index l.into
