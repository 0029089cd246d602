-- The packages that a choice takes, and what they come to.
use Rattle.std.specs.Prelude.{ℕ, ◌+◌, ◌/◌, ◌%◌, Bool, false, ◌&&◌, ◌||◌, List, [], ◌∷◌, ℤ, pos, ◌+ℤ◌, ◌==◌, if◌then◌else◌}
use Rattle.offers.specs.declared.records.Package.{Package}
use Rattle.clearing.specs.declared.dockets.PricedPackage.{PricedPackage}
use Rattle.clearing.specs.declared.choices.Taken.{Taken}

-- the packages of a docket that a choice takes: its lowest binary digit stands for the first, 1 meaning taken
abbrev pub taken : List PricedPackage → ℕ → List PricedPackage
taken [] choice = []
taken (p ∷ ps) choice = if choice % 2 == 1 then p ∷ taken ps (choice / 2) else taken ps (choice / 2)

-- those that are still to come of a walk over them
abbrev pub still_taken : Taken → List PricedPackage
still_taken t = taken t.packages.now t.digits

-- the sum of an amount over a list
abbrev pub total : {X : Type 0} → (X → ℕ) → List X → ℕ
total f [] = 0
total f (x ∷ xs) = f x + total f xs

-- the markets
abbrev pub markets : List ℕ
markets = 1 ∷ 2 ∷ 3 ∷ 4 ∷ 5 ∷ []

-- what a package supplies to a market: power in its power zone (markets 1 to 3), energy (4) and certificates (5) everywhere
abbrev pub supplied : ℕ → Package → ℕ
supplied m p =
    if m == 4 then p.energy else if m == 5 then p.certificates else if p.power_zone == m then p.power else 0

-- what the packages supply to a market
abbrev pub supply : ℕ → List PricedPackage → ℕ
supply m = total (λ p. supplied m p.terms)

-- what those with a date, 1 before or 2 after, supply to it
abbrev pub dated : ℕ → ℕ → List PricedPackage → ℕ
dated date m = total (λ p. if p.terms.date == date then supplied m p.terms else 0)

-- the nameplates in an interconnection zone of packages without connection priority
abbrev pub nameplates : ℕ → List PricedPackage → ℕ
nameplates zone = total (λ p. if p.terms.unqualified == 1 && p.terms.interconnection_zone == zone then p.terms.nameplate else 0)

-- the energy from an export zone of packages without connection priority
abbrev pub exports : ℕ → List PricedPackage → ℕ
exports zone = total (λ p. if p.terms.unqualified == 1 && p.terms.export_zone == zone then p.terms.energy else 0)

-- the prices together
abbrev pub cost : List PricedPackage → ℤ
cost [] = pos 0
cost (p ∷ ps) = p.price +ℤ cost ps

-- a package of this offer number is among them
abbrev pub has_number : ℕ → List PricedPackage → Bool
has_number n [] = false
has_number n (p ∷ ps) = p.number == n || has_number n ps
