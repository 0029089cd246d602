-- Why the filled sales are the sales to take: they are lawful where any are, and bring most.
use Rattle.std.specs.Prelude.{ℕ, ◌*◌, ◌≤◌, List, [], ◌∷◌}
use Rattle.clearing.specs.declared.dockets.OpenBand.{OpenBand}
use Rattle.clearing.specs.Choices.{taken, supply}
use Rattle.clearing.specs.Lawful.{View, Lawful, filled_sales, sold, income}

-- each band is sold at most its quantity, counted in d-th parts of a unit
abbrev pub PartsWithin : ℕ → List OpenBand → List ℕ → Type 0
PartsWithin d [] [] = Unit {0}
PartsWithin d [] (s ∷ ss) = ⊥
PartsWithin d (b ∷ bs) [] = ⊥
PartsWithin d (b ∷ bs) (s ∷ ss) = (s ≤ d * b.terms.quantity) × PartsWithin d bs ss

-- What the filled sales of a choice are among all sales of it.
pub record BestFilled (v : View) (choice : ℕ) : Type 0 where
  -- they are lawful whenever any sales are
  pub lawful : (sales : List ℕ) → Lawful v choice sales → Lawful v choice (filled_sales v choice)
  -- no sales within quantities and supply, even of d-th parts of a unit, bring more
  pub most : (d : ℕ) → 1 ≤ d → (sales : List ℕ) → PartsWithin d v.bands sales
      → ((m : ℕ) → sold v.bands sales m ≤ d * supply m (taken v.packages choice))
      → income v.bands sales ≤ d * income v.bands (filled_sales v choice)
