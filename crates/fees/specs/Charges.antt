-- What each buyer is sold in a choice, in pesos, and the fees on it.
use Rattle.std.specs.Prelude.{◌≡◌, ℕ, ◌+◌, ◌*◌, ◌≤◌, List, [], ◌∷◌, ◌++◌, map, length, take, drop, Ok, Err, Result, ◌==◌, nat_le, if◌then◌else◌, not}
use Rattle.std.specs.List.{sum, AllByRecursion as Every}
use Rattle.offers.specs.declared.refusals.Code.TheVariants.{NoRoom, RateOutside}
use Rattle.offers.specs.declared.refusals.Refusal.{Refusal}
use Rattle.offers.specs.Refusals.{code_only}
use Rattle.offers.specs.Tables.{BUYERS}
use Rattle.clearing.specs.declared.dockets.OpenBand.{OpenBand}
use Rattle.clearing.specs.Lawful.{View, filled_sales, income}
use Rattle.clearing.specs.Ranges.{MOST_ASKED}
use Rattle.clearing.specs.Tallies.{row}
use Rattle.fees.specs.declared.rates.FeeRates.{FeeRates}
use Rattle.fees.specs.Fees.{rates_in_range, exact_fee, fee, RoundedHalfUp}

-- what a buyer is sold, in pesos: over its bands, sold times price
abbrev pub bought : List OpenBand → List ℕ → ℕ → ℕ
bought [] ss buyer = 0
bought (b ∷ bs) [] buyer = 0
bought (b ∷ bs) (s ∷ ss) buyer = (if b.terms.buyer == buyer then s * b.terms.price else 0) + bought bs ss buyer

-- the value of a buyer in a choice with filled sales
abbrev pub value : View → ℕ → ℕ → ℕ
value v choice buyer = bought v.bands (filled_sales v choice) buyer

-- the values of all buyers, by rising number
abbrev pub values : View → ℕ → List ℕ
values v choice = row (value v choice) 1 BUYERS

-- and the fee of each
abbrev pub fees : FeeRates → View → ℕ → List ℕ
fees rates v choice = map (fee rates) (values v choice)

-- what a charging answers, and the row after it
pub record Charge : Type 0 where
  pub answer : Result ℕ Refusal
  pub row : List ℕ

-- The fees in the first places of the row that is lent, and their total. Rates are looked at before the row, and a refusal leaves it.
abbrev pub charging : FeeRates → View → ℕ → List ℕ → Charge
charging rates v choice lent =
    if not (rates_in_range rates) then record { answer = Err (code_only RateOutside); row = lent }
    else if not (nat_le BUYERS (length lent)) then record { answer = Err (code_only NoRoom); row = lent }
    else record { answer = Ok (sum (fees rates v choice)); row = fees rates v choice ++ drop BUYERS lent }

-- the most that all bands pay together: each asks for the most, at the greatest price
abbrev pub MOST_VALUE : ℕ
MOST_VALUE = MOST_ASKED * 10000000

-- What is promised of the fees of a choice that are written into a row, and of their total.
pub record FairFees (rates : FeeRates) (v : View) (choice : ℕ) (row : List ℕ) (total : ℕ) : Type 0 where
  -- the fee on a value is the exact one, rounded half up
  pub rounded : (value : ℕ) → RoundedHalfUp (exact_fee rates value) (fee rates value)
  -- a greater value never pays less
  pub rising : (less more : ℕ) → less ≤ more → fee rates less ≤ fee rates more
  -- a buyer with no open band pays nothing
  pub no_band : (buyer : ℕ) → Every (λ b. b.terms.buyer ≡ buyer → ⊥) v.bands → fee rates (value v choice buyer) ≡ 0
  -- the values of the buyers together are the income of all markets
  pub shared : sum (values v choice) ≡ income v.bands (filled_sales v choice)
  -- which is bounded, so that nothing overflows
  pub bounded : income v.bands (filled_sales v choice) ≤ MOST_VALUE
  -- the total is the sum of the fees, which stand in the row's first places
  pub whole : total ≡ sum (take BUYERS row)
