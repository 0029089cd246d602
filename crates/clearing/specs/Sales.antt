-- How a supply fills the bands.
use Rattle.std.specs.Prelude.{ℕ, ◌-◌, ◌*◌, min, List, [], ◌∷◌, ◌==◌, slice_index, if◌then◌else◌}
use Rattle.clearing.specs.declared.dockets.OpenBand.{OpenBand}
use Rattle.clearing.specs.declared.sales.Sales.{Sales}
use Rattle.clearing.specs.Choices.{total, markets}
use Rattle.clearing.specs.Tallies.{row}

-- what a band is sold of a supply by market, market m at place m - 1: what the bands ahead leave, up to its quantity
abbrev pub filled : List ℕ → OpenBand → ℕ
filled supply b = min (slice_index supply (b.terms.market - 1) - b.ahead) b.terms.quantity

-- what is sold in a market
abbrev pub sold_in : List OpenBand → List ℕ → ℕ → ℕ
sold_in bands supply m = total (λ b. if b.terms.market == m then filled supply b else 0) bands

-- the income of a market, in pesos: over its bands, sold times price
abbrev pub income_in : List OpenBand → List ℕ → ℕ → ℕ
income_in bands supply m = total (λ b. if b.terms.market == m then filled supply b * b.terms.price else 0) bands

-- the incomes of the markets together
abbrev pub filled_income : List OpenBand → List ℕ → ℕ
filled_income bands supply = total (income_in bands supply) markets

abbrev pub sales_of : List OpenBand → List ℕ → Sales
sales_of bands supply = record { sold = row (sold_in bands supply) 1 5; income = filled_income bands supply }

-- what the band of an offer number is sold, 0 where it is not open
abbrev pub sale_of : List OpenBand → List ℕ → ℕ → ℕ
sale_of [] supply n = 0
sale_of (b ∷ bs) supply n = if b.number == n then filled supply b else sale_of bs supply n
