-- `gain`: a price in range and what any multipliers make of a package's supplies have room in 64 bits.
use Rattle.std.proofs.Common.{arith}
use Rattle.std.proofs.lemmas.Int.{ints}
use Rattle.clearing.proofs.Fits.{priced_ranges}
use Rattle.bounds.proofs.multipliers.gain.Goals as goal

pub returns-clause-value : goal.returns-clause-value
returns-clause-value c =
    let r = priced_ranges c.args.priced.now c.requires in
    omega (arith, ints, r.price_least, r.price, c.value_at.ensures.value, c.value_at.ensures.bound)

pub returns-clause-low : goal.returns-clause-low
returns-clause-low c =
    let r = priced_ranges c.args.priced.now c.requires in
    omega (arith, ints, r.price_least, r.price, c.value_at.ensures.bound)

pub returns-clause-high : goal.returns-clause-high
returns-clause-high c =
    let r = priced_ranges c.args.priced.now c.requires in
    omega (arith, ints, r.price_least, r.price, c.value_at.ensures.bound)
