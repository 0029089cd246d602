-- The docket of an accepted closing: what is open, and nothing else.
use Rattle.std.proofs.Common.{◌≡◌, ℕ, true, ◌↔◌, List, [], ◌∷◌, map, Contains, All, ℤ, Ok, Err, Result, is_ok, IsOk, sym, refl, ap, ◌∙◌, subst, map-id, arith}
use Rattle.std.proofs.lemmas.List.Elements.{All-nil, All-cons, All-contains}
use Rattle.offers.specs.declared.records.Package.{Package}
use Rattle.offers.specs.declared.refusals.Refusal.{Refusal}
use Rattle.offers.specs.declared.registers.Entry.{Entry}
use Rattle.offers.specs.Memory.{Entries}
use Rattle.pricing.specs.declared.rules.Fault.{Fault}
use Rattle.clearing.specs.declared.dockets.PricedPackage.{PricedPackage}
use Rattle.clearing.specs.Bands.{Numbered, rises_from}
use Rattle.clearing.specs.Closing.{OpenWith, OfOpen, open_from, priced_as, priced, docket_with, closed_with, closing}
use Rattle.pricing.specs.Prices.{Meaning}
use Rattle.clearing.specs.Lawful.{View}
use Rattle.clearing.proofs.Contained.{mapped, made_from, among_open, record_among_open, band_among_open}
use Rattle.clearing.proofs.Openings.{map-map, numbers_rise, bands_rise}

-- a package as it was offered
abbrev package_offered : PricedPackage → Numbered Package
package_offered p = record { number = p.number; terms = p.terms }

-- priced packages are these packages, each with the price that a rule means
record Priced (meaning : Meaning) (os : List (Numbered Package)) (ps : List PricedPackage) : Type 0 where
  same : map package_offered ps ≡ os
  prices : All (λ p. meaning p.terms ≡ Ok p.price) ps

abbrev PricedIfOk : Meaning → List (Numbered Package) → Result (List PricedPackage) Refusal → Type 0
PricedIfOk meaning os (Ok ps) = Priced meaning os ps
PricedIfOk meaning os (Err e) = Unit {0}

module _ (meaning : Meaning) where
  -- with one package more
  priced_first : (o : Numbered Package) (os : List (Numbered Package)) (answer : Result ℤ Fault) (rest : Result (List PricedPackage) Refusal)
      → meaning o.terms ≡ answer → PricedIfOk meaning os rest → PricedIfOk meaning (o ∷ os) (priced_as o answer rest)
  priced_first o os (Ok price) (Ok ps) is well = record {
    same = ap (λ rs. o ∷ rs) well.same;
    prices = All-cons (λ p. meaning p.terms ≡ Ok p.price) (record { number = o.number; price = price; terms = o.terms }) ps is well.prices;
  }
  priced_first o os (Ok price) (Err e) is well = tt
  priced_first o os (Err fault) rest is well = tt

  priced_so : (os : List (Numbered Package)) → PricedIfOk meaning os (priced meaning os)
  priced_so [] = record { same = refl; prices = All-nil (λ p. meaning p.terms ≡ Ok p.price) }
  priced_so (o ∷ os) = priced_first o os (meaning o.terms) (priced meaning os) refl (priced_so os)

  module _ (es : List (Entry Package)) (ps : List PricedPackage) (well : Priced meaning (open_from 1 es) ps) where
    -- each open package stands there with a price that the rule means
    with_price : (n : ℕ) (r : Package) → OpenWith es n r → (p : PricedPackage) × Contains ps p × (package_offered p ≡ record { number = n; terms = r }) × (meaning p.terms ≡ Ok p.price)
    with_price n r open_there =
        let o : Numbered Package = record { number = n; terms = r } in
        let there : Contains (map package_offered ps) o = rw well.same ((among_open es o).1 open_there) in
        let made = made_from package_offered o ps there in
        (made.0, made.1, made.2, All-contains (λ p. meaning p.terms ≡ Ok p.price) ps made.0 well.prices made.1)

    package_among_open : (p : PricedPackage) → Contains ps p ↔ (OpenWith es p.number p.terms × (meaning p.terms ≡ Ok p.price))
    package_among_open p = (
      λ there. (
        (among_open es (package_offered p)).0 (rw (← well.same) (mapped package_offered p ps there)),
        All-contains (λ p. meaning p.terms ≡ Ok p.price) ps p well.prices there,
      ),
      λ both.
          let (q, there, is, price) = with_price p.number p.terms both.0 in
          let number : q.number ≡ p.number = ap (λ o. o.number) is in
          let of : q.terms ≡ p.terms = ap (λ o. o.terms) is in
          let cost : q.price ≡ p.price = let one : meaning q.terms ≡ meaning p.terms = ap meaning of in let two = both.1 in cc in
          let same : q ≡ p = λ i. record { number = number i; price = cost i; terms = of i } in
          subst (Contains ps) same there,
    )

    has_price : (n : ℕ) (r : Package) → OpenWith es n r → IsOk (meaning r)
    has_price n r open_there =
        let (q, there, is, price) = with_price n r open_there in
        ap is_ok (ap meaning (sym (ap (λ o. o.terms) is)) ∙ price)

    numbers_rise_priced : rises_from 0 (map (λ p. p.number) ps) ≡ true
    numbers_rise_priced =
        let numbers : map (λ p. p.number) ps ≡ map (λ o. o.number) (map (λ o. o) (open_from 1 es)) =
        sym (map-map (λ o. o.number) package_offered ps) ∙ ap (map (λ o. o.number)) (well.same ∙ sym (map-id (open_from 1 es))) in
        rw numbers (numbers_rise (λ o. o.number) (λ o. o) (λ o. refl) 0 1 es (omega arith))

-- what open packages with their prices make with what else is open
docket_of_open : (all : Entries) (price : Meaning) (ps : List PricedPackage) → Priced price (open_from 1 all.packages) ps → OfOpen all price (docket_with all ps)
docket_of_open all price ps well = record {
  packages = package_among_open price all.packages ps well;
  all_priced = has_price price all.packages ps well;
  bands = band_among_open all.bands;
  pairs = record_among_open all.pairs;
  exclusions = record_among_open all.exclusions;
  limits = record_among_open all.limits;
  packages_rise = numbers_rise_priced price all.packages ps well;
  bands_rise = bands_rise all.bands;
}

-- an accepted closing's docket is made so
accepted_of_open : (all : Entries) (price : Meaning) (v before : View) (r : Result (List PricedPackage) Refusal) → PricedIfOk price (open_from 1 all.packages) r
    → closed_with before all r ≡ record { answer = Ok tt; after = v } → OfOpen all price v
accepted_of_open all price v before (Ok ps) well made = subst (OfOpen all price) (ap (λ o. o.after) made) (docket_of_open all price ps well)
accepted_of_open all price v before (Err e) well made = let z : ◌≡◌ {A = ℕ} 0 1 = cc (ap (λ o. o.answer) made) in absurd (omega arith)

-- what is open, and nothing else, stands in the docket of an accepted closing
pub closing_open : (all : Entries) (price : Meaning) (v before : View) → closing before all price ≡ record { answer = Ok tt; after = v } → OfOpen all price v
closing_open all price v before made =
    accepted_of_open all price v before (priced price (open_from 1 all.packages)) (priced_so price (open_from 1 all.packages)) made
