-- A docket that a closing makes keeps what every docket keeps.
use Rattle.std.proofs.Common.{◌≡◌, ℕ, suc, ◌+◌, ◌*◌, ◌≤◌, Bool, true, List, [], ◌∷◌, map, length, ℤ, Ok, Err, Result, sym, refl, ap, subst, arith}
use Rattle.std.specs.List.{AllByRecursion as Every, list_all}
use Rattle.std.proofs.lemmas.List.{length-map}
use Rattle.std.proofs.lemmas.Bool.{and_from, le-leb}
use Rattle.offers.specs.Layouts.{Layout}
use Rattle.offers.specs.Registers.{InRange}
use Rattle.offers.specs.Memory.{Entries, Sound}
use Rattle.offers.specs.Tables.{package_layout, band_layout, pair_layout, exclusion_layout, limit_layout}
use Rattle.offers.specs.declared.kinds.Kind.TheVariants as kind
use Rattle.offers.specs.declared.records.Package.{Package}
use Rattle.offers.specs.declared.records.Band.{Band}
use Rattle.offers.specs.declared.registers.Entry.{Entry}
use Rattle.offers.specs.declared.registers.Entry.TheVariants.{Vacant, Open, Withdrawn}
use Rattle.offers.specs.declared.refusals.Refusal.{Refusal}
use Rattle.pricing.specs.Prices.{Bounded, Meaning}
use Rattle.pricing.specs.declared.rules.Fault.{Fault}
use Rattle.clearing.specs.declared.dockets.PricedPackage.{PricedPackage}
use Rattle.clearing.specs.Bands.{Numbered, ahead_of, comes_ahead}
use Rattle.clearing.specs.Closing.{open_from, open_records, open_bands, priced_as, priced, docket_with, closed_with, ByClosing}
use Rattle.clearing.specs.Lawful.{View, nothing_open}
use Rattle.clearing.specs.Ranges.{fits, package_fits, band_fits}
use Rattle.clearing.proofs.Fits.{open_fits, within-from, price-from, band_ranges}
use Rattle.clearing.proofs.Openings.{with_ahead, bands_rise, bands-ahead}
use Rattle.clearing.specs.Ranged.{Ranged}
use Rattle.clearing.proofs.Rows.{where_most}

-- an open record in range, with an offer number from 1 to a greatest
pub record Listed {R : Type 0} (k : Layout R) (most : ℕ) (r : Numbered R) : Type 0 where
  pub fit : fits k r.terms ≡ true
  pub low : 1 ≤ r.number
  pub high : r.number ≤ most

-- the open records of a register in range are so
listed : {R : Type 0} (k : Layout R) (most n : ℕ) (es : List (Entry R)) → InRange k es → 1 ≤ n → n + length es ≤ most + 1 → Every (Listed k most) (open_from n es)
listed k most n [] ok low room = tt
listed k most n (Vacant ∷ es) ok low room = listed k most (n + 1) es (λ i. ok (suc i)) (omega arith) (omega arith)
listed k most n (Open r ∷ es) ok low room = (
  record { fit = open_fits k (Open r ∷ es) 0 r ok refl; low = low; high = omega arith },
  listed k most (n + 1) es (λ i. ok (suc i)) (omega arith) (omega arith),
)
listed k most n (Withdrawn r ∷ es) ok low room = listed k most (n + 1) es (λ i. ok (suc i)) (omega arith) (omega arith)

-- there are no more open records than entries
open_few : {R : Type 0} (n : ℕ) (es : List (Entry R)) → length (open_from n es) ≤ length es
open_few n [] = omega arith
open_few n (Vacant ∷ es) = omega (arith, open_few (n + 1) es)
open_few n (Open r ∷ es) = omega (arith, open_few (n + 1) es)
open_few n (Withdrawn r ∷ es) = omega (arith, open_few (n + 1) es)

-- what is made of each element passes a test where each element has what the test wants
each_made : {X Y : Type 0} (P : X → Type 0) (f : X → Y) (test : Y → Bool) → ((x : X) → P x → test (f x) ≡ true) → (xs : List X) → Every P xs → list_all test (map f xs) ≡ true
each_made P f test passes [] all = refl
each_made P f test passes (x ∷ xs) all = and_from (test (f x)) (list_all test (map f xs)) (passes x all.0) (each_made P f test passes xs all.1)

-- what would be taken ahead of a band is at most the greatest quantity for each band
ahead-few : (b : Numbered Band) (bs : List (Numbered Band)) → Every (Listed band_layout 64) bs → ahead_of bs b ≤ 100000000 * length bs
ahead-few b [] all = omega arith
ahead-few b (a ∷ bs) all =
    let here = where_most (comes_ahead a b) a.terms.quantity 100000000 (band_ranges a.terms all.0.fit).quantity in
    omega (arith, here, ahead-few b bs all.1)

-- packages that a rule priced are in range, and no more than were open
abbrev PricedWell : ℕ → Result (List PricedPackage) Refusal → Type 0
PricedWell few (Ok ps) = (list_all package_fits ps ≡ true) × (length ps ≤ few)
PricedWell few (Err e) = Unit {0}

-- so with one package more
priced_more : (p : Numbered Package) (answer : Result ℤ Fault) (rest : Result (List PricedPackage) Refusal) (few : ℕ)
    → Listed package_layout 40 p → Bounded answer → PricedWell few rest → PricedWell (suc few) (priced_as p answer rest)
priced_more p (Ok price) (Ok ps) few here bounded well = (
  and_from _ _
      (and_from _ _ here.fit (and_from _ _ (within-from 1 40 p.number here.low here.high) (price-from price bounded.0 bounded.1)))
      well.0,
  omega (arith, well.1),
)
priced_more p (Ok price) (Err e) few here bounded well = tt
priced_more p (Err fault) rest few here bounded well = tt

priced_well : (meaning : Meaning) → ((p : Package) → Bounded (meaning p)) → (ps : List (Numbered Package)) → Every (Listed package_layout 40) ps
    → PricedWell (length ps) (priced meaning ps)
priced_well meaning bounded [] all = (refl, omega arith)
priced_well meaning bounded (p ∷ ps) all =
    priced_more p (meaning p.terms) (priced meaning ps) (length ps) all.0 (bounded p.terms) (priced_well meaning bounded ps all.1)

-- an accepted closing made its docket of priced packages
accepted_docket : (all : Entries) (r : Result (List PricedPackage) Refusal) (v : View) (few : ℕ) → PricedWell few r
    → closed_with nothing_open all r ≡ record { answer = Ok tt; after = v }
    → (ps : List PricedPackage) × (list_all package_fits ps ≡ true) × (length ps ≤ few) × (v ≡ docket_with all ps)
accepted_docket all (Ok ps) v few well made = (ps, well.0, well.1, sym (ap (λ o. o.after) made))
accepted_docket all (Err e) v few well made = let z : ◌≡◌ {A = ℕ} 0 1 = cc (ap (λ o. o.answer) made) in absurd (omega arith)

module _ (all : Entries) (sound : Sound all) where
  -- the open bands of sound entries are in range
  bands_listed : Every (Listed band_layout 64) (open_from 1 all.bands)
  bands_listed = listed band_layout 64 1 all.bands (sound.in_range kind.Band) (omega arith) (omega (arith, sound.numbered kind.Band))

  -- with what stands ahead of them
  bands-fit : list_all band_fits (open_bands all.bands) ≡ true
  bands-fit =
      each_made (Listed band_layout 64) (with_ahead all.bands) band_fits (λ b here.
      and_from _ _ here.fit (and_from _ _ (within-from 1 64 b.number here.low here.high)
      (le-leb _ 6400000000 (omega (arith, ahead-few b (open_from 1 all.bands) bands_listed, open_few 1 all.bands, sound.numbered kind.Band)))))
      (open_from 1 all.bands) bands_listed

  -- records of any other kind are in range
  records_fit : {R : Type 0} (k : Layout R) (es : List (Entry R)) → InRange k es → list_all (fits k) (open_records es) ≡ true
  records_fit k es ok =
      each_made (Listed k (length es)) (λ r. r.terms) (fits k) (λ r here. here.fit) (open_from 1 es) (listed k (length es) 1 es ok (omega arith) (omega arith))

  -- so a docket of them keeps all that a docket keeps
  docket_ranged : (ps : List PricedPackage) → list_all package_fits ps ≡ true → length ps ≤ 40 → Ranged (docket_with all ps)
  docket_ranged ps fit few = record {
    few_packages = few;
    few_bands = omega (arith, length-map (open_from 1 all.bands) (with_ahead all.bands), open_few 1 all.bands, sound.numbered kind.Band);
    packages = fit;
    bands = bands-fit;
    order = record { numbers = bands_rise all.bands; ahead = bands-ahead all.bands };
    pairs = records_fit pair_layout all.pairs (sound.in_range kind.Pair);
    exclusions = records_fit exclusion_layout all.exclusions (sound.in_range kind.Exclusion);
    limits = records_fit limit_layout all.limits (sound.in_range kind.Limit);
  }

-- so does every docket that a closing makes
pub ranged-closing : (v : View) → ByClosing v → Ranged v
ranged-closing v by =
    let all = by.entries in
    let open_packages = open_from 1 all.packages in
    let here = listed package_layout 40 1 all.packages (by.sound.in_range kind.Package) (omega arith) (omega (arith, by.sound.numbered kind.Package)) in
    let made = accepted_docket all (priced by.meaning open_packages) v (length open_packages) (priced_well by.meaning by.bounded open_packages here) by.accepted in
    subst Ranged (sym made.3)
    (docket_ranged all by.sound made.0 made.1 (omega (arith, made.2, open_few 1 all.packages, by.sound.numbered kind.Package)))
