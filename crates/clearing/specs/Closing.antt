-- What stands in the docket of a closing, and what a closing makes of the entries and a price rule's meaning.
use Rattle.std.specs.Prelude.{◌≡◌, ℕ, ◌+◌, ◌≤◌, true, ◌↔◌, List, [], ◌∷◌, map, Contains, ℤ, Ok, Err, Result, IsOk, ◌-◌, pos, slice_index_or}
use Rattle.offers.specs.declared.records.Package.{Package}
use Rattle.offers.specs.declared.records.Band.{Band}
use Rattle.offers.specs.declared.records.Pair.{Pair}
use Rattle.offers.specs.declared.records.Exclusion.{Exclusion}
use Rattle.offers.specs.declared.records.Limit.{Limit}
use Rattle.offers.specs.declared.refusals.Code.TheVariants.{PriceFault}
use Rattle.offers.specs.declared.refusals.Refusal.{Refusal}
use Rattle.offers.specs.declared.registers.Entry.{Entry}
use Rattle.offers.specs.declared.registers.Entry.TheVariants.{Vacant, Open, Withdrawn}
use Rattle.offers.specs.Memory.{Entries, Sound}
use Rattle.offers.specs.Registers.{Outcome, entry}
use Rattle.offers.specs.Tables.{package_layout}
use Rattle.pricing.specs.declared.rules.Fault.{Fault}
use Rattle.pricing.specs.Prices.{BoundedRule, Meaning}
use Rattle.clearing.specs.declared.dockets.PricedPackage.{PricedPackage}
use Rattle.clearing.specs.declared.dockets.OpenBand.{OpenBand}
use Rattle.clearing.specs.Bands.{Numbered, offered, ahead_of, rises_from, rising}
use Rattle.clearing.specs.Lawful.{View, nothing_open}

-- number n of a register is open with record r
abbrev pub OpenWith : {R : Type 0} → List (Entry R) → ℕ → R → Type 0
OpenWith es n r = (1 ≤ n) × (entry es n ≡ Open r)

-- What is open among entries, and nothing else, stands in a docket, with the prices that a rule means. Packages and bands stand there
-- with their numbers; of pairs, exclusions and limits only the records do, and what is lawful asks which of them, not how often.
pub record OfOpen (all : Entries) (price : Meaning) (docket : View) : Type 0 where
  -- a package stands in it exactly if its number is open with its record, and its price is what the rule means
  pub packages : (p : PricedPackage)
      → Contains docket.packages p ↔ (OpenWith all.packages p.number p.terms × (price p.terms ≡ Ok p.price))
  -- no open package is left out for want of a price
  pub all_priced : (n : ℕ) (r : Package) → OpenWith all.packages n r → IsOk (price r)
  -- a band, as it was offered, exactly if its number is open with its record
  pub bands : (b : Numbered Band) → Contains (map offered docket.bands) b ↔ OpenWith all.bands b.number b.terms
  -- a pair exactly if some number is open with it
  pub pairs : (r : Pair) → Contains docket.pairs r ↔ ((n : ℕ) × OpenWith all.pairs n r)
  -- an exclusion likewise
  pub exclusions : (r : Exclusion) → Contains docket.exclusions r ↔ ((n : ℕ) × OpenWith all.exclusions n r)
  -- and a limit
  pub limits : (r : Limit) → Contains docket.limits r ↔ ((n : ℕ) × OpenWith all.limits n r)
  -- packages stand by rising number, so none stands twice
  pub packages_rise : rises_from 0 (map (λ p. p.number) docket.packages) ≡ true
  -- and so do bands
  pub bands_rise : rising docket.bands ≡ true

-- the open records of a register by rising number, its first entry having number n
abbrev pub open_from : {R : Type 0} → ℕ → List (Entry R) → List (Numbered R)
open_from n [] = []
open_from n (Vacant ∷ es) = open_from (n + 1) es
open_from n (Open r ∷ es) = record { number = n; terms = r } ∷ open_from (n + 1) es
open_from n (Withdrawn r ∷ es) = open_from (n + 1) es

abbrev pub open_records : {R : Type 0} → List (Entry R) → List R
open_records es = map (λ r. r.terms) (open_from 1 es)

-- each open band with what stands ahead of it
abbrev pub open_bands : List (Entry Band) → List OpenBand
open_bands es =
    map (λ b. record { number = b.number; ahead = ahead_of (open_from 1 es) b; terms = b.terms }) (open_from 1 es)

-- a package without a price refuses the closing: its tag, its number, and the depth of the rule that had none
abbrev pub no_price : ℕ → Fault → Refusal
no_price n fault = record { code = PriceFault; tag = package_layout.tag; number = n; field = 0; byte = 0; depth = fault.depth }

abbrev pub followed_by : PricedPackage → Result (List PricedPackage) Refusal → Result (List PricedPackage) Refusal
followed_by p (Ok ps) = Ok (p ∷ ps)
followed_by p (Err e) = Err e

abbrev pub priced_as : Numbered Package → Result ℤ Fault → Result (List PricedPackage) Refusal → Result (List PricedPackage) Refusal
priced_as p (Ok price) rest = followed_by (record { number = p.number; price = price; terms = p.terms }) rest
priced_as p (Err fault) rest = Err (no_price p.number fault)

-- each package with its price; the first without one refuses
abbrev pub priced : Meaning → List (Numbered Package) → Result (List PricedPackage) Refusal
priced meaning [] = Ok []
priced meaning (p ∷ ps) = priced_as p (meaning p.terms) (priced meaning ps)

-- what pricing the open packages of a register comes to: the price of each at its place, or the refusal of the first without one
abbrev pub PricesOpen : Meaning → List (Entry Package) → Result (List ℤ) Refusal → Type 0
PricesOpen meaning es (Ok prices) =
    (k : ℕ) (p : Package) → slice_index_or es k Vacant ≡ Open p → meaning p ≡ Ok (slice_index_or prices k (pos 0))
PricesOpen meaning es (Err refusal) = priced meaning (open_from 1 es) ≡ Err refusal

-- each open package with the price at its place
abbrev pub packages_at : List ℤ → List (Entry Package) → List PricedPackage
packages_at prices es =
    map (λ p. record { number = p.number; price = slice_index_or prices (p.number - 1) (pos 0); terms = p.terms }) (open_from 1 es)

abbrev pub docket_with : Entries → List PricedPackage → View
docket_with all ps = record {
  packages = ps;
  bands = open_bands all.bands;
  pairs = open_records all.pairs;
  exclusions = open_records all.exclusions;
  limits = open_records all.limits;
}

abbrev pub closed_with : View → Entries → Result (List PricedPackage) Refusal → Outcome View
closed_with before all (Ok ps) = record { answer = Ok tt; after = docket_with all ps }
closed_with before all (Err e) = record { answer = Err e; after = before }

-- A closing copies what is open and prices each package; a price fault leaves the docket as it was.
abbrev pub closing : View → Entries → Meaning → Outcome View
closing before all meaning = closed_with before all (priced meaning (open_from 1 all.packages))

-- A docket that a closing makes: of entries as a round holds them, by a rule whose prices are in range.
pub record ByClosing (v : View) : Type 0 where
  pub entries : Entries
  pub meaning : Meaning
  pub sound : Sound entries
  pub bounded : BoundedRule meaning
  pub accepted : closing nothing_open entries meaning ≡ record { answer = Ok tt; after = v }
