-- `narrowed`: what two choices supply has room in 64 bits.
use Rattle.std.proofs.Common.{sym, subst}
use Rattle.clearing.proofs.Takings.{taken-bounded}
use Rattle.bounds.proofs.Supplies.{Few}
use Rattle.bounds.proofs.multipliers.Between.narrowed.Goals as goal

pub together-supply-requires-clause-one : goal.together-supply-requires-clause-one
together-supply-requires-clause-one c = subst Few (sym c.requires) (taken-bounded c.supply_of-worthwhile.ensures.ranged c.args.block.first).supply

pub together-supply-requires-clause-other : goal.together-supply-requires-clause-other
together-supply-requires-clause-other c = subst Few (sym c.supply_of-worthwhile.ensures.supply) (taken-bounded c.supply_of-worthwhile.ensures.ranged c.gainful_choice.result).supply
