-- `skip`: a block has at most 2 ^ 40 choices.
use Rattle.std.proofs.Common.{arith, pow_mono}
use Rattle.std.proofs.lemmas.Nat.{one_shl}
use Rattle.search.proofs.positions.Position.skip.Goals as goal

pub settle-requires : goal.settle-requires
settle-requires c = let few = c.self.invariant.few in omega (arith, one_shl c.self.inside.free 64 (omega (arith, few)), pow_mono few)
