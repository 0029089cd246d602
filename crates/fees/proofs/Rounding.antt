-- A fee is the exact one rounded, grows with the value, and has no more centavos than the value has pesos.
use Rattle.std.proofs.Common.{◌≡◌, ℕ, ◌+◌, ◌*◌, ◌/◌, ◌≤◌, true, leb, mul-le-mul_left, mul-le-mul_right, arith}
use Rattle.std.proofs.lemmas.Bool.{and_parts, leb-true}
use Rattle.fees.specs.declared.rates.FeeRates.{FeeRates}
use Rattle.fees.specs.Fees.{rates_in_range, first_part, second_part, third_part, exact_fee, fee, RoundedHalfUp}

-- hundredths, with 50 added and cut off, are rounded half up
pub half_up : (n : ℕ) → RoundedHalfUp n ((n + 50) / 100)
half_up n = record { above = omega arith; below = omega arith }

-- The rates that are in range.
pub record InRange (rates : FeeRates) : Type 0 where
  pub first : rates.first ≤ 100
  pub second : rates.second ≤ 100
  pub third : rates.third ≤ 100

pub in_range : (rates : FeeRates) → rates_in_range rates ≡ true → InRange rates
in_range rates e =
    let parts = and_parts (leb rates.first 100) _ e in
    let rest = and_parts (leb rates.second 100) (leb rates.third 100) parts.1 in
    record {
      first = leb-true rates.first 100 parts.0;
      second = leb-true rates.second 100 rest.0;
      third = leb-true rates.third 100 rest.1;
    }

-- what parts of a value bear is at most 100 for each peso
pub parts_most : (rates : FeeRates) (a b c : ℕ) → InRange rates → a * rates.first + (b * rates.second + c * rates.third) ≤ 100 * (a + (b + c))
parts_most rates a b c r =
    omega (arith, mul-le-mul_left a r.first, mul-le-mul_left b r.second, mul-le-mul_left c r.third)

-- the three parts are the whole value
pub parts_whole : (value : ℕ) → first_part value + (second_part value + third_part value) ≡ value
parts_whole value = omega arith

-- so a fee has at most as many centavos as the value has pesos
pub fee_most : (rates : FeeRates) (value : ℕ) → InRange rates → fee rates value ≤ value
fee_most rates value r =
    let most = parts_most rates (first_part value) (second_part value) (third_part value) r in
    omega (arith, most, parts_whole value)

-- a greater value bears no less
exact_rises : (rates : FeeRates) (less more : ℕ) → less ≤ more → exact_fee rates less ≤ exact_fee rates more
exact_rises rates less more h =
    let first : first_part less ≤ first_part more = omega arith in
    let second : second_part less ≤ second_part more = omega arith in
    let third : third_part less ≤ third_part more = omega arith in
    omega (arith, mul-le-mul_right rates.first first, mul-le-mul_right rates.second second, mul-le-mul_right rates.third third)

-- and pays no less
pub fee_rises : (rates : FeeRates) (less more : ℕ) → less ≤ more → fee rates less ≤ fee rates more
fee_rises rates less more h = omega (arith, exact_rises rates less more h)

-- and nothing pays nothing
pub fee_none : (rates : FeeRates) → fee rates 0 ≡ 0
fee_none rates = omega arith
