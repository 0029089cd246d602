-- Why the ceiling rule is sound: no surplus is above the ceiling.
use Rattle.std.specs.Prelude.{ℕ, List, ◌≤ℤ◌}
use Rattle.std.proofs.Common.{arith}
use Rattle.std.proofs.lemmas.Int.{ints}
use Rattle.clearing.specs.Choices.{taken}
use Rattle.clearing.specs.Lawful.{View, Lawful, surplus}
use Rattle.clearing.specs.Ranges.{package_fits}
use Rattle.clearing.proofs.Incomes.{income-few}
use Rattle.clearing.specs.Ranged.{Ranged}
use Rattle.clearing.proofs.Takings.{taken-fits, taken-few}
use Rattle.clearing.proofs.Tallying.{cost_between}
use Rattle.bounds.specs.Blocks.{Span, Claims}
use Rattle.bounds.specs.Rules.{ceiling, always}

module _ (v : View) (ranged : Ranged v) where
  -- no lawful surplus is above the ceiling
  pub surplus-few : (choice : ℕ) (sales : List ℕ) → Lawful v choice sales → surplus v choice sales ≤ℤ ceiling
  surplus-few choice sales lawful =
      let income = income-few v.bands sales ranged.bands lawful.within_quantities in
      let costs = cost_between (taken v.packages choice) (taken-fits package_fits v.packages choice ranged.packages) in
      omega (arith, ints, income, costs.0, taken-few v.packages choice, ranged.few_packages, ranged.few_bands)

  -- so the ceiling is a cap of any block
  pub always-sound : (b : Span) → Claims v b (always v b)
  always-sound b choice sales inside lawful = surplus-few choice sales lawful
