-- `record_length`: the kind of each arm is known.
use Rattle.std.proofs.Common.{refl}
use Rattle.offers.proofs.kinds.Kind.record_length.Goals as goal

pub returns-in-Package : goal.returns-in-Package
returns-in-Package c = rw c.in-Package.is refl

pub returns-in-Band : goal.returns-in-Band
returns-in-Band c = rw c.in-Band.is refl

pub returns-in-Pair : goal.returns-in-Pair
returns-in-Pair c = rw c.in-Pair.is refl

pub returns-in-Exclusion : goal.returns-in-Exclusion
returns-in-Exclusion c = rw c.in-Exclusion.is refl

pub returns-in-Limit : goal.returns-in-Limit
returns-in-Limit c = rw c.in-Limit.is refl
