-- What a fee is: a value in three parts, a rate on each, and one rounding.
use Rattle.std.specs.Prelude.{ℕ, ◌+◌, ◌-◌, ◌*◌, ◌/◌, ◌<◌, ◌≤◌, min, Bool, ◌&&◌, nat_le}
use Rattle.fees.specs.declared.rates.FeeRates.{FeeRates}

-- a rate is 0 to this, in hundredths of a per cent
abbrev pub MOST_RATE : ℕ
MOST_RATE = 100

abbrev pub rates_in_range : FeeRates → Bool
rates_in_range rates = nat_le rates.first MOST_RATE && (nat_le rates.second MOST_RATE && nat_le rates.third MOST_RATE)

-- the pesos of a value that bear the first rate: the first 1,000,000
abbrev pub first_part : ℕ → ℕ
first_part value = min value 1000000

-- those that bear the second: the next 99,000,000
abbrev pub second_part : ℕ → ℕ
second_part value = min (value - 1000000) 99000000

-- and those that bear the third: what is above 100,000,000
abbrev pub third_part : ℕ → ℕ
third_part value = value - 100000000

-- the exact fee, in hundredths of a centavo: over the three parts, pesos times rate
abbrev pub exact_fee : FeeRates → ℕ → ℕ
exact_fee rates value = first_part value * rates.first + (second_part value * rates.second + third_part value * rates.third)

-- the fee, in centavos: rounded half up, once
abbrev pub fee : FeeRates → ℕ → ℕ
fee rates value = (exact_fee rates value + 50) / 100

-- A fee is at most half a centavo above the exact one and never so much below it; both sides in hundredths of a centavo.
pub record RoundedHalfUp (exact fee : ℕ) : Type 0 where
  pub above : 100 * fee ≤ exact + 50
  pub below : exact + 50 < 100 * fee + 100
