-- The multipliers of a block.
use Rattle.bounds.specs.Blocks.{Span, fixed}
use Rattle.clearing.specs.Lawful.{View}
use Rattle.std.specs.Prelude.{ℕ, zero, suc, ◌+◌, ◌-◌, ◌*◌, ◌/◌, max, Bool, ◌&&◌, List, [], ◌∷◌, ℤ, pos, ◌-ℤ◌, int_lt, ◌==◌, nat_lt, slice_index, if◌then◌else◌, false, slice_index_or}
use Rattle.std.specs.List.{filter}
use Rattle.clearing.specs.declared.dockets.PricedPackage.{PricedPackage}
use Rattle.clearing.specs.declared.dockets.OpenBand.{OpenBand}
use Rattle.clearing.specs.Choices.{total, markets, supplied, supply, taken}
use Rattle.clearing.specs.Tallies.{row}
use Rattle.bounds.specs.declared.multipliers.Between.{Between}

-- Pesos that a unit of each market is taken to be worth, market m at place m - 1.
abbrev pub Multipliers : Type 0
Multipliers = List ℕ

-- a market's
abbrev pub unit_worth : Multipliers → ℕ → ℕ
unit_worth l m = slice_index l (m - 1)

-- what amounts of the markets are worth
abbrev pub value_at : Multipliers → (ℕ → ℕ) → ℕ
value_at l amount = total (λ m. unit_worth l m * amount m) markets

-- what the supplies of a package are worth above its price
abbrev pub gain : Multipliers → PricedPackage → ℤ
gain l p = pos (value_at l (λ m. supplied m p.terms)) -ℤ p.price

-- the packages that are worth more than their price
abbrev pub gainful : Multipliers → List PricedPackage → List PricedPackage
gainful l ps = filter (λ p. int_lt (pos 0) (gain l p)) ps

-- what the bands of a market ask for that pay above the market's multiplier
abbrev pub asked_above : List OpenBand → Multipliers → ℕ → ℕ
asked_above bands l m =
    total (λ b. if b.terms.market == m && nat_lt (unit_worth l m) b.terms.price then b.terms.quantity else 0) bands

-- the greatest price of a market's bands whose running total (its own quantity and what stands ahead of it) exceeds an amount, 0 where
-- none does: by falling price running totals rise, so it is that of the first that exceeds it
abbrev pub price_at : List OpenBand → ℕ → ℕ → ℕ
price_at [] m amount = 0
price_at (b ∷ bs) m amount =
    max (if b.terms.market == m && nat_lt amount (b.ahead + b.terms.quantity) then b.terms.price else 0) (price_at bs m amount)

-- of each market the one number where a test holds, else the other
abbrev pub either : List Bool → Multipliers → Multipliers → Multipliers
either tests one other = row (λ m. if slice_index_or tests (m - 1) false then unit_worth one m else unit_worth other m) 1 5

-- of each market, is more supplied than its bands ask for that pay above its multiplier?
abbrev pub over_asked : List OpenBand → Multipliers → List ℕ → List Bool
over_asked bands l supplies = row (λ m. nat_lt (asked_above bands l m) (slice_index supplies (m - 1))) 1 5

-- half-way between, rounded down
abbrev pub middle : Between → Multipliers
middle s = row (λ m. (unit_worth s.low m + unit_worth s.high m) / 2) 1 5

-- do the fixed packages, with those of the live ones that are worth more than their price, supply more to a market than is asked for above
-- its multiplier?
abbrev pub oversupplied : List OpenBand → List PricedPackage → List PricedPackage → Multipliers → ℕ → Bool
oversupplied bands fixed live l m = nat_lt (asked_above bands l m) (supply m fixed + supply m (gainful l live))

-- the half where they are looked for next: the lower one of a market that is oversupplied, else the upper
abbrev pub narrowed : List OpenBand → List PricedPackage → List PricedPackage → Between → Between
narrowed bands fixed live s = record {
  low = row (λ m. if oversupplied bands fixed live (middle s) m then unit_worth s.low m else unit_worth (middle s) m) 1 5;
  high = row (λ m. if oversupplied bands fixed live (middle s) m then unit_worth (middle s) m else unit_worth s.high m) 1 5;
}

-- so many times
unfoldable pub narrowing : ℕ → List OpenBand → List PricedPackage → List PricedPackage → Between → Between
narrowing zero bands fixed live s = s
narrowing (suc times) bands fixed live s = narrowed bands fixed live (narrowing times bands fixed live s)

-- what the first band pays that is not filled by all, and by the fixed alone
abbrev pub widest : List OpenBand → List PricedPackage → List PricedPackage → Between
widest bands fixed live = record {
  low = row (λ m. price_at bands m (supply m fixed + supply m live)) 1 5;
  high = row (λ m. price_at bands m (supply m fixed)) 1 5;
}

-- the multipliers of a block, of its fixed packages and of those of its free ones that count
abbrev pub multipliers : List OpenBand → List PricedPackage → List PricedPackage → Multipliers
multipliers bands fixed live = middle (narrowing 6 bands fixed live (widest bands fixed live))

-- the same of a block, where a choice takes those of its free packages that count
abbrev pub widest_in : View → Span → ℕ → Between
widest_in v b live = widest v.bands (fixed v b) (taken v.packages live)

abbrev pub narrowed_in : View → Span → ℕ → Between → Between
narrowed_in v b live = narrowed v.bands (fixed v b) (taken v.packages live)

abbrev pub multipliers_in : View → Span → ℕ → Multipliers
multipliers_in v b live = multipliers v.bands (fixed v b) (taken v.packages live)

-- what the fixed packages of a block supply, market m at place m - 1
abbrev pub fixed_supply : View → Span → List ℕ
fixed_supply v b = row (λ m. supply m (fixed v b)) 1 5
