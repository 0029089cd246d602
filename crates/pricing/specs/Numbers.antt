-- The ranges of the price rules' own numbers, and their refusal.
use Rattle.std.specs.Prelude.{◌≡◌, ℕ, Bool, true, false, ◌&&◌, List, ℤ, pos, int_le, Ok, Err, Result, neg_ℤ}
use Rattle.std.specs.List.{list_all}
use Rattle.offers.specs.declared.refusals.Code.TheVariants.{FieldOutside}
use Rattle.offers.specs.declared.refusals.Refusal.{Refusal}
use Rattle.offers.specs.Fields.{within}
use Rattle.offers.specs.Refusals.{code_only}

-- a number of a price zone: -1,000 to 1,000 pesos for each MWh
abbrev pub zone_number : ℤ → Bool
zone_number n = int_le (neg_ℤ (pos 1000)) n && int_le n (pos 1000)

abbrev pub zone_numbers : List ℤ → Bool
zone_numbers ns = list_all zone_number ns

-- preference 10,000 to 11,000 and expectation 5,000 to 20,000, both in ten-thousandths
abbrev pub currency_rates : ℕ → ℕ → Bool
currency_rates preference expectation = within 10000 11000 preference && within 5000 20000 expectation

-- a number of a rule out of its range: the code alone
abbrev pub rule_refused : Refusal
rule_refused = code_only FieldOutside

-- what a check answers of a rule's numbers: those in range, made into what holds them; others are refused with the code alone
abbrev pub MadeIf : {X : Type 0} → Result X Refusal → Bool → (X → Type 0) → Type 0
MadeIf (Ok made) in_range Holds = (in_range ≡ true) × Holds made
MadeIf (Err refusal) in_range Holds = (in_range ≡ false) × (refusal ≡ rule_refused)
