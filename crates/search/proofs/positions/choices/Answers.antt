-- `choices`: a docket has at most 40 packages.
use Rattle.std.proofs.Common.{length, arith, pow_mono}
use Rattle.std.proofs.lemmas.Nat.{one_shl}
use Rattle.search.proofs.positions.choices.Goals as goal

pub returns-clause-bound : goal.returns-clause-bound
returns-clause-bound c =
    let few = c.as_slice.ensures.few in
    omega (arith, one_shl (length c.as_slice.result.now) 64 (omega (arith, few)), pow_mono few)
