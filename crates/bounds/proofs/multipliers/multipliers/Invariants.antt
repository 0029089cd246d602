-- What the loop of `multipliers` keeps true: so many turns have narrowed what the beginning leaves.
use Rattle.std.proofs.Common.{◌≡◌}
use Rattle.clearing.specs.Choices.{taken}
use Rattle.bounds.specs.Multipliers.{narrowing, widest}
use Rattle.bounds.specs.Blocks.{fixed}
use Rattle.bounds.proofs.multipliers.multipliers.Given as goal

abbrev pub invariant-loop-turn : goal.invariant-loop-turn
invariant-loop-turn l =
    let bands = l.docket.bands in
    let fixed_ones = fixed l.docket l.block in
    let free = taken l.docket.packages l.live in
    l.between ≡ narrowing l._turn bands fixed_ones free (widest bands fixed_ones free)
