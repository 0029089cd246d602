-- What the loop of `exclusions_kept` keeps true: each group so far has the one member of it that is taken.
use Rattle.clearing.proofs.Exclusions.{Firsts}
use Rattle.clearing.proofs.lawful.exclusions_kept.Given as goal

abbrev pub invariant-loop-exclusion : goal.invariant-loop-exclusion
invariant-loop-exclusion l = Firsts l.exclusion-items l.tally.takes l.exclusion-index l.first
