-- What is promised of fees.
use Rattle.std.specs.List.{sum}
use Rattle.std.proofs.Common.{◌≡◌, ℕ, ◌≤◌, true, ◌++◌, List, length, map, drop, Ok, refl, sym, ap, ◌∙◌}
use Rattle.std.proofs.lemmas.Bool.{le-leb}
use Rattle.std.proofs.lemmas.List.{take_at}
use Rattle.clearing.specs.Choices.{taken, supply}
use Rattle.clearing.specs.Lawful.{View, filled_sales}
use Rattle.clearing.specs.Ranged.{Ranged}
use Rattle.clearing.specs.Sales.{filled}
use Rattle.clearing.specs.Tallies.{row}
use Rattle.fees.specs.declared.rates.FeeRates.{FeeRates}
use Rattle.fees.specs.Charges.{bought, values, fees, charging, FairFees}
use Rattle.fees.specs.Fees.{rates_in_range, exact_fee, fee}
use Rattle.fees.proofs.Rounding.{half_up, fee_none, fee_rises}
use Rattle.fees.proofs.Values.{sum_bought, bought_none, income_most}

pub fair : (rates : FeeRates) (v : View) (choice : ℕ) (rest : List ℕ) → Ranged v
    → FairFees rates v choice (fees rates v choice ++ rest) (sum (fees rates v choice))
fair rates v choice rest ok = record {
  rounded = λ value. half_up (exact_fee rates value);
  rising = fee_rises rates;
  no_band = λ buyer none. ap (fee rates) (bought_none v.bands (filled_sales v choice) buyer none) ∙ fee_none rates;
  shared = sum_bought v.bands (filled_sales v choice) ok.bands;
  bounded = income_most v choice ok;
  whole = ap sum (sym (take_at (fees rates v choice) rest 16 refl));
}

-- rates in range and a row that is long enough are charged
pub charged : (rates : FeeRates) (v : View) (choice : ℕ) (lent : List ℕ) → rates_in_range rates ≡ true → 16 ≤ length lent
    → charging rates v choice lent ≡ record { answer = Ok (sum (fees rates v choice)); row = fees rates v choice ++ drop 16 lent }
charged rates v choice lent ok long = rw (ok, le-leb 16 (length lent) long)

-- the values that a choice's supply brings are those of the choice
pub values_of : (v : View) (choice : ℕ) (supplied found : List ℕ) → supplied ≡ row (λ m. supply m (taken v.packages choice)) 1 5
    → found ≡ row (bought v.bands (map (filled supplied) v.bands)) 1 16 → found ≡ values v choice
values_of v choice supplied found is has = has ∙ ap (λ (s : List ℕ). row (bought v.bands (map (filled s) v.bands)) 1 16) is
