-- The rules of a lawful choice said again as tests, by which the code works out what a choice is worth. They are proved to be true
-- exactly where the rules of `Lawful` hold (proofs/Judged), and `worth` carries what its answer says in words of those (`Worth`).
use Rattle.std.specs.List.{list_all}
use Rattle.std.specs.Prelude.{ℕ, ◌*◌, Bool, not, ◌&&◌, ◌||◌, List, [], ◌∷◌, ℤ, Some, None, Option, ◌==◌, nat_le, if◌then◌else◌}
use Rattle.offers.specs.declared.records.Pair.{Pair}
use Rattle.offers.specs.declared.records.Exclusion.{Exclusion}
use Rattle.offers.specs.declared.records.Limit.{Limit}
use Rattle.clearing.specs.declared.dockets.PricedPackage.{PricedPackage}
use Rattle.clearing.specs.Choices.{taken, dated, nameplates, exports, has_number}
use Rattle.clearing.specs.Lawful.{View, sold, percentage, surplus, filled_sales}

abbrev pub implies : Bool → Bool → Bool
implies a b = not a || b

-- each package of T that needs another has it among W
abbrev pub pairs_kept : List Pair → List PricedPackage → List PricedPackage → Bool
pairs_kept pairs T W = list_all (λ p. implies (has_number p.dependent T) (has_number p.needed W)) pairs

-- no two different packages of a group are in T
abbrev pub exclusions_kept : List Exclusion → List PricedPackage → Bool
exclusions_kept exclusions T =
    list_all (λ e. list_all (λ f.
    implies (e.group == f.group && (has_number e.member T && has_number f.member T)) (e.member == f.member))
    exclusions) exclusions

-- unqualified nameplates and energy stay within the limits of their zones
abbrev pub zones_kept : List Limit → List PricedPackage → Bool
zones_kept limits T =
    list_all (λ l.
    implies (l.sort == 1) (nat_le (nameplates l.zone T) l.amount)
    && implies (l.sort == 2) (nat_le (exports l.zone T) l.amount))
    limits

-- what is dated, 1 before or 2 after, is at most a percentage of what is sold in its market
abbrev pub share_kept : View → List PricedPackage → List ℕ → ℕ → ℕ → ℕ → Bool
share_kept v T sales zone date m = nat_le (100 * dated date m T) (percentage v.limits zone * sold v.bands sales m)

abbrev pub dates_kept : View → List PricedPackage → List ℕ → Bool
dates_kept v T sales =
    list_all (λ m. share_kept v T sales 1 1 m && share_kept v T sales 2 2 m) (1 ∷ 2 ∷ 3 ∷ [])
    && (share_kept v T sales 3 1 5 && share_kept v T sales 4 2 5)

-- what is dated of the packages that one choice takes keeps the percentages of what another's filled sales sell
abbrev pub dates_stand : View → ℕ → ℕ → Bool
dates_stand v first last = dates_kept v (taken v.packages first) (filled_sales v last)

-- Filled sales are within quantities and supply whatever is taken, so this is all that a choice with them has to keep.
abbrev pub passes : View → List PricedPackage → List ℕ → Bool
passes v T sales =
    pairs_kept v.pairs T T
    && (exclusions_kept v.exclusions T && (zones_kept v.limits T && dates_kept v T sales))

-- what a choice is worth with filled sales, if it is lawful with them
abbrev pub worth_of : View → ℕ → Option ℤ
worth_of v choice =
    if passes v (taken v.packages choice) (filled_sales v choice) then Some (surplus v choice (filled_sales v choice)) else None
