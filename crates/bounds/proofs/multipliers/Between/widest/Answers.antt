-- `beginning`: what two choices supply has room in 64 bits.
use Rattle.std.proofs.Common.{sym, subst}
use Rattle.clearing.proofs.Takings.{taken-bounded}
use Rattle.bounds.proofs.Supplies.{Few}
use Rattle.bounds.proofs.multipliers.Between.widest.Goals as goal

pub together-all-requires-clause-one : goal.together-all-requires-clause-one
together-all-requires-clause-one c = subst Few (sym c.requires) (taken-bounded c.supply_of-free.ensures.ranged c.args.block.first).supply

pub together-all-requires-clause-other : goal.together-all-requires-clause-other
together-all-requires-clause-other c = subst Few (sym c.supply_of-free.ensures.supply) (taken-bounded c.supply_of-free.ensures.ranged c.args.live).supply
