-- What each bounding rule answers.
use Rattle.std.specs.Prelude.{ℕ, zero, suc, ◌+◌, ◌-◌, ◌*◌, ◌^◌, Bool, ◌&&◌, List, [], ◌∷◌, fold, ℤ, pos, ◌+ℤ◌, ◌-ℤ◌, Some, None, Option, if◌then◌else◌, ◌≡◌}
use Rattle.std.specs.Int.{int_max, int_min}
use Rattle.std.specs.List.{filter}
use Rattle.clearing.specs.declared.dockets.PricedPackage.{PricedPackage}
use Rattle.clearing.specs.declared.dockets.OpenBand.{OpenBand}
use Rattle.clearing.specs.Choices.{taken, total, supply, cost}
use Rattle.clearing.specs.Judging.{pairs_kept, exclusions_kept, zones_kept, dates_stand}
use Rattle.clearing.specs.Lawful.{View, income, surplus, filled_sales}
use Rattle.clearing.specs.Sales.{filled}
use Rattle.clearing.specs.Tallies.{row}
use Rattle.bounds.specs.Blocks.{Span, Answers, last_of, fixed, possible, free_ones, InDocket}
use Rattle.bounds.specs.Multipliers.{Multipliers, unit_worth, gain, multipliers}
use Rattle.bounds.specs.declared.names.Named.{Named}
use Rattle.bounds.specs.declared.names.Named.TheVariants.{Ceiling, AllIn, OneByOne, Limits, Shares, Tangent}

-- of prices only what is below 0, together
abbrev pub below_zero : List PricedPackage → ℤ
below_zero [] = pos 0
below_zero (p ∷ ps) = int_min p.price (pos 0) +ℤ below_zero ps

-- a cap above every surplus, in pesos: none is above 64,000,800,000,000,000
abbrev pub ceiling : ℤ
ceiling = pos 100000000000000000

-- what each choice of a block costs at least: the fixed packages their prices, the free ones what is below 0 of theirs
abbrev pub costs_at_least : View → Span → ℤ
costs_at_least v b = cost (fixed v b) +ℤ below_zero (free_ones v b)

-- ceiling: always that
abbrev pub always : Answers
always v b = Some ceiling

-- all-in: what the fixed and free packages together would earn, less the prices of the fixed, less the negative prices of the free
abbrev pub all_in : Answers
all_in v b = Some ((pos (income v.bands (filled_sales v (last_of b))) -ℤ cost (fixed v b)) -ℤ below_zero (free_ones v b))

-- what a choice is worth with filled sales, lawful or not
abbrev pub unlimited : View → ℕ → ℤ
unlimited v choice = surplus v choice (filled_sales v choice)

-- what each package of the lowest so many digits alone would add to a choice, if above 0, together
abbrev pub lone_gains : View → ℕ → ℕ → ℤ
lone_gains v choice zero = pos 0
lone_gains v choice (suc digit) = lone_gains v choice digit +ℤ int_max (unlimited v (choice + 2 ^ digit) -ℤ unlimited v choice) (pos 0)

-- one-by-one: the surplus of the fixed packages, lawful or not, and what each free package alone would add to it, if above 0
abbrev pub one_by_one : Answers
one_by_one v b = Some (unlimited v b.first +ℤ lone_gains v b.first b.free)

-- taken packages T keep the rules that taking more of the possible ones W does not mend: pairs, exclusions and zones
abbrev pub stands : View → List PricedPackage → List PricedPackage → Bool
stands v T W = pairs_kept v.pairs T W && (exclusions_kept v.exclusions T && zones_kept v.limits T)

-- limits: none where the fixed packages break an exclusion or a limit of a zone, or need one that is not open or fixed as left out
abbrev pub limits_kept : Answers
limits_kept v b = if stands v (fixed v b) (possible v b) then Some ceiling else None

-- a package that could be taken with others, by the tests of the limits rule
abbrev pub joins : View → List PricedPackage → List PricedPackage → PricedPackage → Bool
joins v T W p = stands v (p ∷ T) W

-- the free packages of a block that could be taken with the fixed ones
abbrev pub live_ones : View → Span → List PricedPackage
live_ones v b = filter (joins v (fixed v b) (possible v b)) (free_ones v b)

-- what is sold of a supply beyond what is sold of a smaller one, at what each band pays for a unit above its worth
abbrev pub sold_above : Multipliers → List OpenBand → List ℕ → List ℕ → ℕ
sold_above l bands less more =
    total (λ b. (filled more b - filled less b) * (b.terms.price - unit_worth l b.terms.market)) bands

-- of gains only what is above 0, together
abbrev pub gains_above : Multipliers → List PricedPackage → ℤ
gains_above l [] = pos 0
gains_above l (p ∷ ps) = int_max (gain l p) (pos 0) +ℤ gains_above l ps

-- a choice takes just the live packages of a block
abbrev pub TakesLive : View → Span → ℕ → Type 0
TakesLive v b choice = InDocket v b → taken v.packages choice ≡ live_ones v b

-- the cap by multipliers, with some packages free: the surplus of the fixed, lawful or not, what all would sell beyond that above its
-- worth, and the gains of the free
abbrev pub tangent_by : Multipliers → List PricedPackage → View → Span → ℤ
tangent_by l free v b =
    (unlimited v b.first
    +ℤ pos (sold_above l v.bands (row (λ m. supply m (fixed v b)) 1 5) (row (λ m. supply m (fixed v b) + supply m free) 1 5)))
    +ℤ gains_above l free

-- tangent: with the multipliers of the block
abbrev pub tangent : Answers
tangent v b = Some (tangent_by (multipliers v.bands (fixed v b) (live_ones v b)) (live_ones v b) v b)

-- shares: none where what is dated of the fixed packages is above its percentage of the most that any choice of the block can sell in
-- its market
abbrev pub shares_kept : Answers
shares_kept v b = if dates_stand v b.first (last_of b) then Some ceiling else None

-- joined: none where either of two rules says so, else the smaller cap
abbrev pub smaller : Option ℤ → Option ℤ → Option ℤ
smaller None other = None
smaller (Some cap) None = None
smaller (Some cap) (Some other) = Some (int_min cap other)

-- two rules joined
abbrev pub joined : Answers → Answers → Answers
joined one other v b = smaller (one v b) (other v b)

-- the limits rule and the all-in rule joined
abbrev pub limits_and_all_in : Answers
limits_and_all_in v b = smaller (limits_kept v b) (all_in v b)

-- any number of rules joined from the left: the first, and the others joined to it one after another
abbrev pub chained : Answers → List Answers → Answers
chained first others = fold joined first others

-- the rule that a name picks
abbrev pub named : Named → Answers
named Ceiling = always
named AllIn = all_in
named OneByOne = one_by_one
named Limits = limits_kept
named Shares = shares_kept
named Tangent = tangent
