-- The rules of a lawful choice said again over the sums of a tally, as the code tests them. They are proved to hold of the tally of a
-- choice exactly where the tests of `Judging` are true of its packages (proofs/Tested, proofs/Judged).
use Rattle.std.specs.Prelude.{◌≡◌, ℕ, ◌-◌, ◌*◌, ◌≤◌, Bool, true, false, List, slice_index, slice_index_or, ◌==◌, if◌then◌else◌}
use Rattle.std.specs.List.{AllByRecursion as Every}
use Rattle.offers.specs.declared.records.Pair.{Pair}
use Rattle.offers.specs.declared.records.Exclusion.{Exclusion}
use Rattle.offers.specs.declared.records.Limit.{Limit}
use Rattle.clearing.specs.declared.tallies.Tally.{Tally}
use Rattle.clearing.specs.Lawful.{percentage}

-- by offer number: is it in?
abbrev pub In : List Bool → ℕ → Type 0
In takes n = slice_index_or takes n false ≡ true

-- each dependent package that is taken has its needed one among those of another row
abbrev pub PairsKept : List Pair → List Bool → List Bool → Type 0
PairsKept pairs taken within = Every (λ p. In taken p.dependent → In within p.needed) pairs

-- no two different members of a group are taken
abbrev pub ExclusionsKept : List Exclusion → List Bool → Type 0
ExclusionsKept exclusions taken =
    Every (λ e. Every (λ f. e.group ≡ f.group → In taken e.member → In taken f.member → e.member ≡ f.member) exclusions) exclusions

-- what counts against a limit of a zone: nameplates in it or energy from it, and nothing against a percentage
abbrev pub zone_load : Limit → Tally → ℕ
zone_load l t =
    if l.sort == 1 then slice_index t.nameplate (l.zone - 1)
    else if l.sort == 2 then slice_index t.export (l.zone - 1) else 0

-- zone z stands at place z - 1 of a row
abbrev pub ZonesKept : List Limit → List ℕ → List ℕ → Type 0
ZonesKept limits nameplate export =
    Every (λ l. (l.sort ≡ 1 → slice_index nameplate (l.zone - 1) ≤ l.amount) × (l.sort ≡ 2 → slice_index export (l.zone - 1) ≤ l.amount)) limits

-- dated supply of a market, at place m - 1, is at most its percentage of what is sold there
abbrev pub Share : ℕ → List ℕ → List ℕ → ℕ → Type 0
Share percent dated sold m = 100 * slice_index dated (m - 1) ≤ percent * slice_index sold (m - 1)

pub record DatesKept (limits : List Limit) (t : Tally) (sold : List ℕ) : Type 0 where
  pub power_before : (m : ℕ) → 1 ≤ m → m ≤ 3 → Share (percentage limits 1) t.before sold m
  pub power_after : (m : ℕ) → 1 ≤ m → m ≤ 3 → Share (percentage limits 2) t.after sold m
  pub certificates_before : Share (percentage limits 3) t.before sold 5
  pub certificates_after : Share (percentage limits 4) t.after sold 5
