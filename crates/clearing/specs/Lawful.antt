-- What a lawful choice is, what it is worth, and which is best. Nothing here searches.
use Rattle.std.specs.Prelude.{◌≡◌, ℕ, ◌+◌, ◌*◌, ◌^◌, ◌<◌, ◌≤◌, min, true, ◌&&◌, List, [], ◌∷◌, map, length, ℤ, pos, ◌-ℤ◌, ◌≤ℤ◌, Some, None, Option, ◌==◌, if◌then◌else◌}
use Rattle.std.specs.List.{AllByRecursion as Every}
use Rattle.offers.specs.declared.records.Pair.{Pair}
use Rattle.offers.specs.declared.records.Exclusion.{Exclusion}
use Rattle.offers.specs.declared.records.Limit.{Limit}
use Rattle.clearing.specs.declared.dockets.PricedPackage.{PricedPackage}
use Rattle.clearing.specs.declared.dockets.OpenBand.{OpenBand}
use Rattle.clearing.specs.Choices.{taken, total, markets, supply, dated, nameplates, exports, cost, has_number}
use Rattle.clearing.specs.Sales.{filled}
use Rattle.clearing.specs.Tallies.{row}

-- What was open at a closing, as plain lists by rising offer number.
pub record View : Type 0 where
  pub packages : List PricedPackage
  pub bands : List OpenBand
  pub pairs : List Pair
  pub exclusions : List Exclusion
  pub limits : List Limit

-- where nothing is open
abbrev pub nothing_open : View
nothing_open = record { packages = []; bands = []; pairs = []; exclusions = []; limits = [] }

-- each band has a sale, one beside the other, of at most its quantity
abbrev pub WithinQuantities : List OpenBand → List ℕ → Type 0
WithinQuantities [] [] = Unit {0}
WithinQuantities [] (s ∷ ss) = ⊥
WithinQuantities (b ∷ bs) [] = ⊥
WithinQuantities (b ∷ bs) (s ∷ ss) = (s ≤ b.terms.quantity) × WithinQuantities bs ss

-- what is sold in a market
abbrev pub sold : List OpenBand → List ℕ → ℕ → ℕ
sold [] ss m = 0
sold (b ∷ bs) [] m = 0
sold (b ∷ bs) (s ∷ ss) m = (if b.terms.market == m then s else 0) + sold bs ss m

-- the income of a market, in pesos: over its bands, sold times price
abbrev pub market_income : List OpenBand → List ℕ → ℕ → ℕ
market_income [] ss m = 0
market_income (b ∷ bs) [] m = 0
market_income (b ∷ bs) (s ∷ ss) m = (if b.terms.market == m then s * b.terms.price else 0) + market_income bs ss m

-- the incomes of the markets together
abbrev pub income : List OpenBand → List ℕ → ℕ
income bands sales = total (market_income bands sales) markets

-- the percentage that binds, of four: the least of those that are set for it, or 100. They are 1 power before, 2 power after,
-- 3 certificates before, 4 certificates after.
abbrev pub percentage : List Limit → ℕ → ℕ
percentage [] zone = 100
percentage (l ∷ ls) zone = if l.sort == 3 && l.zone == zone then min l.amount (percentage ls zone) else percentage ls zone

-- A choice with a sale for each open band is lawful if it keeps these rules. T are the packages that it takes.
pub record LawfulFor (v : View) (T : List PricedPackage) (sales : List ℕ) : Type 0 where
  -- no band is sold more than its quantity
  pub within_quantities : WithinQuantities v.bands sales
  -- no market sells more than the taken packages supply to it
  pub within_supply : (m : ℕ) → sold v.bands sales m ≤ supply m T
  -- a taken package that needs another has it taken
  pub pairs : Every (λ p. has_number p.dependent T ≡ true → has_number p.needed T ≡ true) v.pairs
  -- no two different packages of a group are taken
  pub exclusions : Every (λ e. Every (λ f.
      e.group ≡ f.group → has_number e.member T ≡ true → has_number f.member T ≡ true → e.member ≡ f.member)
      v.exclusions) v.exclusions
  -- unqualified nameplates in a zone stay within its interconnection limits
  pub interconnection : Every (λ l. l.sort ≡ 1 → nameplates l.zone T ≤ l.amount) v.limits
  -- unqualified energy from a zone stays within its export limits
  pub export : Every (λ l. l.sort ≡ 2 → exports l.zone T ≤ l.amount) v.limits
  -- in each power market, power dated before and after is at most its percentage of the power sold
  pub power_before : (m : ℕ) → 1 ≤ m → m ≤ 3 → 100 * dated 1 m T ≤ percentage v.limits 1 * sold v.bands sales m
  pub power_after : (m : ℕ) → 1 ≤ m → m ≤ 3 → 100 * dated 2 m T ≤ percentage v.limits 2 * sold v.bands sales m
  -- certificates dated before and after are at most their percentage of the certificates sold
  pub certificates_before : 100 * dated 1 5 T ≤ percentage v.limits 3 * sold v.bands sales 5
  pub certificates_after : 100 * dated 2 5 T ≤ percentage v.limits 4 * sold v.bands sales 5

-- a choice is known by its number, which has a binary digit for each open package
abbrev pub Lawful : View → ℕ → List ℕ → Type 0
Lawful v choice sales = LawfulFor v (taken v.packages choice) sales

-- what a choice with its sales is worth: the income of all markets, less the prices of the taken packages
abbrev pub surplus : View → ℕ → List ℕ → ℤ
surplus v choice sales = pos (income v.bands sales) -ℤ cost (taken v.packages choice)

-- the sales where none are named: the bands filled by falling price, equal prices by rising number
abbrev pub filled_sales : View → ℕ → List ℕ
filled_sales v choice = map (filled (row (λ m. supply m (taken v.packages choice)) 1 5)) v.bands

-- what a choice is worth with filled sales; `None` only where no sales make it lawful
abbrev pub Worth : View → ℕ → Option ℤ → Type 0
Worth v choice (Some worth) = Lawful v choice (filled_sales v choice) × (worth ≡ surplus v choice (filled_sales v choice))
Worth v choice None = (sales : List ℕ) → Lawful v choice sales → ⊥

-- the choices of a docket are the numbers below this
abbrev pub choices : View → ℕ
choices v = 2 ^ length v.packages

-- A choice is best among those below a bound: lawful, worth at least as much as any, and the earliest that is.
pub record BestBelow (v : View) (bound choice : ℕ) : Type 0 where
  pub below : choice < bound
  pub lawful : Lawful v choice (filled_sales v choice)
  pub greatest : (other : ℕ) (sales : List ℕ) → other < bound → Lawful v other sales
      → surplus v other sales ≤ℤ surplus v choice (filled_sales v choice)
  pub earliest : (other : ℕ) (sales : List ℕ) → other < bound → Lawful v other sales
      → surplus v other sales ≡ surplus v choice (filled_sales v choice) → choice ≤ other

-- best of all
abbrev pub Best : View → ℕ → Type 0
Best v choice = BestBelow v (choices v) choice
