-- `met`: a pair whose needed package is not possible bars its dependent one.
use Rattle.std.proofs.Common.{false, get_or, set, ap, ◌∙◌}
use Rattle.offers.specs.declared.records.Pair.{Pair}
use Rattle.bounds.specs.Live.{needs}
use Rattle.bounds.proofs.Cleared.{cleared-bars, cleared-keeps}
use Rattle.bounds.proofs.live.met.Goals as goal
use Rattle.bounds.proofs.live.met.Goals.{then-not-possible-pair, else-not-possible-pair}

-- what stands past the end
abbrev no_pair : Pair
no_pair = record { dependent = 0; needed = 0 }

pub loop-pair-preserved : goal.loop-pair-preserved
loop-pair-preserved c =
    let key = λ (p : Pair). p.dependent in
    let fine = needs c.args.possible.now.takes in
    let xs = c.as_slice-pair-items.result.now in
    let i = c.loop-pair.pair-index in
    let inside = c.loop-pair-test.true in
    elim c.if-not-possible-pair.branch [
      | then-not-possible-pair w ↦
          w.met-is
          ∙ ap (λ row. set row (get_or xs i no_pair).dependent false) c.loop-pair.invariant
          ∙ cleared-bars key fine xs i no_pair inside w.if-not-possible-pair.true
      | else-not-possible-pair w ↦ w.met-is ∙ c.loop-pair.invariant ∙ cleared-keeps key fine xs i no_pair inside w.if-not-possible-pair.false
    ]
