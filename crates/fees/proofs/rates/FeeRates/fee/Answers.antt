-- `fee`: the parts are the whole value, and a rate is at most 100.
use Rattle.std.proofs.Common.{ℕ, ◌+◌, ◌-◌, ◌*◌, ◌≤◌, arith}
use Rattle.fees.specs.declared.rates.FeeRates.{FeeRates}
use Rattle.fees.specs.Charges.{MOST_VALUE}
use Rattle.fees.proofs.Rounding.{InRange, in_range, parts_most}
use Rattle.fees.proofs.rates.FeeRates.fee.Goals as goal

-- what parts of a value bear is at most 100 times the value
bears : (rates : FeeRates) (value first second : ℕ) → InRange rates → value ≤ MOST_VALUE → first + second ≤ value
    → first * rates.first + second * rates.second + (value - first - second) * rates.third ≤ 6400000000000000000
bears rates value first second r most parts = omega (arith, parts_most rates first second (value - first - second) r)

pub overflow_mul-hundredths-3 : goal.overflow_mul-hundredths-3
overflow_mul-hundredths-3 c =
    let r = in_range c.args.self c.requires.rates in
    omega (arith, bears c.args.self c.args.value c.min-first.result c.min-second.result r c.requires.value (omega arith))

pub overflow_add-hundredths-2 : goal.overflow_add-hundredths-2
overflow_add-hundredths-2 c =
    let r = in_range c.args.self c.requires.rates in
    omega (arith, bears c.args.self c.args.value c.min-first.result c.min-second.result r c.requires.value (omega arith))

pub overflow_add-result : goal.overflow_add-result
overflow_add-result c =
    let r = in_range c.args.self c.requires.rates in
    omega (arith, bears c.args.self c.args.value c.min-first.result c.min-second.result r c.requires.value (omega arith))
