-- What the passes over pairs, exclusions and limits find, that tells which packages could be taken with others.
use Rattle.bounds.specs.Rules.{stands}
use Rattle.clearing.specs.Tallies.{tally_of}
use Rattle.clearing.specs.Lawful.{View}
use Rattle.clearing.specs.declared.dockets.PricedPackage.{PricedPackage}
use Rattle.std.specs.Prelude.{ℕ, ◌+◌, ◌-◌, min, max, Bool, true, false, not, ◌&&◌, ◌||◌, List, [], ◌∷◌, ◌==◌, nat_le, slice_index, slice_index_or, if◌then◌else◌, ◌≡◌}
use Rattle.offers.specs.declared.records.Package.{Package}
use Rattle.offers.specs.declared.records.Pair.{Pair}
use Rattle.offers.specs.declared.records.Exclusion.{Exclusion}
use Rattle.offers.specs.declared.records.Limit.{Limit}
use Rattle.clearing.specs.declared.tallies.Tally.{Tally}
use Rattle.clearing.specs.Judging.{implies}

-- the test of two tallies is that of the packages that they are of
abbrev pub TestsStand : View → Tally → Tally → Bool → Type 0
TestsStand v taken possible result =
    (T W : List PricedPackage) → taken ≡ tally_of T → possible ≡ tally_of W → result ≡ stands v T W

-- do all records of a key pass a test?
abbrev pub cleared : {X : Type 0} → (X → ℕ) → (X → Bool) → List X → ℕ → Bool
cleared key fine [] n = true
cleared key fine (x ∷ xs) n = implies (key x == n) (fine x) && cleared key fine xs n

-- is the needed package of a pair among those of a row?
abbrev pub needs : List Bool → Pair → Bool
needs takes p = slice_index_or takes p.needed false

-- the greatest member of a group that is taken, 0 where none is
abbrev pub head : List Bool → List Exclusion → ℕ → ℕ
head takes [] group = 0
head takes (e ∷ es) group = max (if e.group == group && slice_index_or takes e.member false then e.member else 0) (head takes es group)

-- does no other member than an exclusion's own stand for its group?
abbrev pub unopposed : List ℕ → Exclusion → Bool
unopposed heads e = slice_index heads (e.group - 1) == 0 || slice_index heads (e.group - 1) == e.member

-- the least amount of a zone's limits of a sort; where none is set, more than any load
abbrev pub tightest : ℕ → List Limit → ℕ → ℕ
tightest sort [] zone = 1000000000000
tightest sort (l ∷ ls) zone = if l.sort == sort && l.zone == zone then min l.amount (tightest sort ls zone) else tightest sort ls zone

-- have the zones of a package room for it beside what is taken?
abbrev pub room : List ℕ → List ℕ → Tally → Package → Bool
room interconnection export t p =
    not (p.unqualified == 1)
    || (nat_le (slice_index t.nameplate (p.interconnection_zone - 1) + p.nameplate) (slice_index interconnection (p.interconnection_zone - 1))
    && nat_le (slice_index t.export (p.export_zone - 1) + p.energy) (slice_index export (p.export_zone - 1)))
