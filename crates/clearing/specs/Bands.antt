-- Which band is served before which, and what stands ahead of a band.
use Rattle.std.specs.Prelude.{ℕ, Bool, true, ◌&&◌, ◌||◌, List, [], ◌∷◌, map, ◌==◌, nat_lt, if◌then◌else◌}
use Rattle.offers.specs.declared.records.Band.{Band}
use Rattle.clearing.specs.declared.dockets.OpenBand.{OpenBand}
use Rattle.clearing.specs.Choices.{total}

-- A record with its offer number.
pub record Numbered (R : Type 0) : Type 0 where
  pub number : ℕ
  pub terms : R

-- a band as it was offered
abbrev pub offered : OpenBand → Numbered Band
offered b = record { number = b.number; terms = b.terms }

-- a band is served before another of its market if its price is higher, or equal and its number smaller
abbrev pub ahead_by : Band → Band → (smaller_number : Bool) → Bool
ahead_by a b smaller_number = (a.market == b.market) && (nat_lt b.price a.price || (a.price == b.price && smaller_number))

abbrev pub comes_ahead : Numbered Band → Numbered Band → Bool
comes_ahead a b = ahead_by a.terms b.terms (nat_lt a.number b.number)

-- what the bands that are served before a band would take
abbrev pub ahead_of : List (Numbered Band) → Numbered Band → ℕ
ahead_of bands b = total (λ a. if comes_ahead a b then a.terms.quantity else 0) bands

-- the numbers rise, and the first is greater than `low`
abbrev pub rises_from : ℕ → List ℕ → Bool
rises_from low [] = true
rises_from low (n ∷ ns) = nat_lt low n && rises_from n ns

-- the offer numbers of bands rise
abbrev pub rising : List OpenBand → Bool
rising bands = rises_from 0 (map (λ b. b.number) bands)

-- what each band holds as standing ahead of it
abbrev pub aheads : List OpenBand → List ℕ
aheads bands = map (λ b. b.ahead) bands

-- what does stand ahead of each
abbrev pub true_aheads : List OpenBand → List ℕ
true_aheads bands = map (λ b. ahead_of (map offered bands) (offered b)) bands
