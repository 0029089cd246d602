-- How one package is added to a tally, sum by sum.
use Rattle.std.proofs.Common.{◌≡◌, ℕ, ◌+◌, ◌-◌, ◌≤◌, Bool, true, cond, ◌&&◌, eqb, List, length, get_or, set, ℤ, ◌+ℤ◌, sym, refl, ap, ◌∙◌, ap₂, arith, w64, to_z, of_z}
use Rattle.std.proofs.lemmas.Int.{ints}
use Rattle.std.proofs.lemmas.Bool.{cond-true, cond-false, eq-eqb, ne_eqb}
use Rattle.std.proofs.lemmas.Bool.Decides.{nat_tests}
use Rattle.offers.specs.declared.records.Package.{Package}
use Rattle.clearing.specs.declared.dockets.PricedPackage.{PricedPackage}
use Rattle.clearing.specs.declared.tallies.Tally.{Tally}
use Rattle.clearing.specs.Choices.{supplied}
use Rattle.clearing.specs.Tallies.{row, plus, added, Room}
use Rattle.clearing.proofs.Fits.{PackageRanges, PricedRanges}
use Rattle.clearing.proofs.Rows.{row_same, plus_where, plus_one, plus-plus, length-plus, where_both}
use Rattle.clearing.proofs.Tallying.{tally_same}

-- what a package supplies to a market, as three amounts of which at most one counts
supplied_parts : (m : ℕ) (p : Package) → p.power_zone ≤ 3
    → cond (eqb p.power_zone m) p.power 0 + (cond (eqb 4 m) p.energy 0 + cond (eqb 5 m) p.certificates 0) ≡ supplied m p
supplied_parts m p h = grind (arith, nat_tests)

-- each supply of a package is added at its market's place
pub supply-added : (s : List ℕ) (p : Package) → length s ≡ 5 → PackageRanges p
    → (let power = set s (p.power_zone - 1) (get_or s (p.power_zone - 1) 0 + p.power) in
    let energy = set power 3 (get_or power 3 0 + p.energy) in
    set energy 4 (get_or energy 4 0 + p.certificates)) ≡ plus s (row (λ m. supplied m p) 1 5)
supply-added s p long r =
    let zone = p.power_zone in
    let in-power = λ (m : ℕ). cond (eqb zone m) p.power 0 in
    let in-energy = λ (m : ℕ). cond (eqb 4 m) p.energy 0 in
    let in-certificates = λ (m : ℕ). cond (eqb 5 m) p.certificates 0 in
    let first = plus s (row in-power 1 5) in
    let second = plus first (row in-energy 1 5) in
    let first-long = length-plus s in-power 1 5 long in
    let one = plus_one s zone p.power 1 5 (zone - 1) long (omega arith) (omega arith) in
    let two = plus_one first 4 p.energy 1 5 3 first-long (omega arith) refl in
    let three = plus_one second 5 p.certificates 1 5 4 (length-plus first in-energy 1 5 first-long) (omega arith) refl in
    ap (λ t. set t 4 (get_or t 4 0 + p.certificates)) (ap (λ t. set t 3 (get_or t 3 0 + p.energy)) one ∙ two)
    ∙ three
    ∙ plus-plus first in-energy in-certificates 1 5
    ∙ plus-plus s in-power (λ m. in-energy m + in-certificates m) 1 5
    ∙ ap (plus s) (row_same _ _ 1 5 (λ m h. supplied_parts m p r.power_zone))

-- The rows of a tally have their lengths.
pub record Sized (t : Tally) : Type 0 where
  pub supply : length t.supply ≡ 5
  pub before : length t.before ≡ 5
  pub after : length t.after ≡ 5
  pub nameplate : length t.nameplate ≡ 16
  pub export : length t.export ≡ 16

-- a tally with another row of what is dated before
abbrev pub with_before : List ℕ → Tally → Tally
with_before xs t = record {
  takes = t.takes;
  supply = t.supply;
  before = xs;
  after = t.after;
  nameplate = t.nameplate;
  export = t.export;
  cost = t.cost;
}

-- and of what is dated after
abbrev pub with_after : List ℕ → Tally → Tally
with_after xs t = record {
  takes = t.takes;
  supply = t.supply;
  before = t.before;
  after = xs;
  nameplate = t.nameplate;
  export = t.export;
  cost = t.cost;
}

module _ (t : Tally) (p : PricedPackage) where
  -- what the package supplies to each market
  abbrev pub supplies : List ℕ
  supplies = row (λ m. supplied m p.terms) 1 5

  -- the cost as it is stored
  abbrev stored_cost : ℤ
  stored_cost = to_z w64 (of_z w64 (to_z w64 (of_z w64 t.cost) +ℤ to_z w64 (of_z w64 p.price)))

  -- it has room in 64 bits
  cost-stored : Room t → PricedRanges p → stored_cost ≡ t.cost +ℤ p.price
  cost-stored room r = omega (arith, ints)

  -- the tally with the package's number, and with this supply and this cost
  abbrev counted : List ℕ → ℤ → Tally
  counted supply cost = record {
    takes = set t.takes p.number true;
    supply = supply;
    before = t.before;
    after = t.after;
    nameplate = t.nameplate;
    export = t.export;
    cost = cost;
  }

  -- the same with the cost as it is stored
  abbrev pub begun : List ℕ → Tally
  begun supply = counted supply stored_cost

  -- a row with the package's supplies where it has this date
  abbrev pub on_date : ℕ → List ℕ → List ℕ
  on_date date xs = cond (eqb p.terms.date date) (plus xs supplies) xs

  -- where it has, a row with them added
  pub dated_yes : (date : ℕ) (xs ys : List ℕ) → p.terms.date ≡ date → ys ≡ plus xs supplies → ys ≡ on_date date xs
  dated_yes date xs ys is e = e ∙ sym (cond-true (eqb p.terms.date date) _ _ (eq-eqb p.terms.date date is))

  -- where it has not, the row as it was
  pub dated_no : (date : ℕ) (xs : List ℕ) → (p.terms.date ≡ date → ⊥) → xs ≡ on_date date xs
  dated_no date xs not = sym (cond-false (eqb p.terms.date date) _ _ (ne_eqb p.terms.date date not))

  -- all sums but those of zones
  abbrev pub dated_too : Tally
  dated_too =
      with_after (on_date 2 t.after) (with_before (on_date 1 t.before) (counted (plus t.supply supplies) (t.cost +ℤ p.price)))

  -- the sums come to that one after the other
  pub dated-is : Room t → PricedRanges p → (supply : List ℕ) (u v : Tally) → supply ≡ plus t.supply supplies
      → u ≡ with_before (on_date 1 t.before) (begun supply) → v ≡ with_after (on_date 2 u.after) u → v ≡ dated_too
  dated-is room r supply u v more first second =
      second
      ∙ ap (λ w. with_after (on_date 2 w.after) w) first
      ∙ ap₂ (λ s z. with_after (on_date 2 t.after) (with_before (on_date 1 t.before) (counted s z))) more (cost-stored room r)

  -- adding at the place of a zone, where a package without priority counts
  zone-added : (xs : List ℕ) (zone amount : ℕ) → length xs ≡ 16 → 1 ≤ zone → zone ≤ 16
      → plus xs (row (λ z. cond (eqb p.terms.unqualified 1 && eqb zone z) amount 0 + 0) 1 16)
      ≡ cond (eqb p.terms.unqualified 1) (set xs (zone - 1) (get_or xs (zone - 1) 0 + amount)) xs
  zone-added xs zone amount long low high =
      let b = eqb p.terms.unqualified 1 in
      ap (plus xs) (row_same _ (λ z. cond b (cond (eqb zone z) amount 0) 0 + 0) 1 16 (λ z h. ap (λ n. n + 0) (where_both b (eqb zone z) amount)))
      ∙ plus_where b xs (λ z. cond (eqb zone z) amount 0) 1 16 long
      ∙ ap (λ ys. cond b ys xs) (sym (plus_one xs zone amount 1 16 (zone - 1) long (omega arith) (omega arith)))

  -- a tally with what a package without priority counts in its zones
  abbrev pub zoned : Tally → Tally
  zoned u = record {
    takes = u.takes;
    supply = u.supply;
    before = u.before;
    after = u.after;
    nameplate = set u.nameplate (p.terms.interconnection_zone - 1) (get_or u.nameplate (p.terms.interconnection_zone - 1) 0 + p.terms.nameplate);
    export = set u.export (p.terms.export_zone - 1) (get_or u.export (p.terms.export_zone - 1) 0 + p.terms.energy);
    cost = u.cost;
  }

  -- the same where the package is one, else the tally as it was
  abbrev zoned_if : Bool → Tally → Tally
  zoned_if b u = record {
    takes = u.takes;
    supply = u.supply;
    before = u.before;
    after = u.after;
    nameplate = cond b (zoned u).nameplate u.nameplate;
    export = cond b (zoned u).export u.export;
    cost = u.cost;
  }

  module _ (long : Sized t) (r : PricedRanges p) where
    -- with the zones that is the package added
    added_is : zoned_if (eqb p.terms.unqualified 1) dated_too ≡ added t p
    added_is =
        sym (tally_same (added t p) (zoned_if (eqb p.terms.unqualified 1) dated_too)
        refl
        (plus_where true t.supply (λ m. supplied m p.terms) 1 5 long.supply)
        (plus_where (eqb p.terms.date 1) t.before (λ m. supplied m p.terms) 1 5 long.before)
        (plus_where (eqb p.terms.date 2) t.after (λ m. supplied m p.terms) 1 5 long.after)
        (zone-added t.nameplate p.terms.interconnection_zone p.terms.nameplate long.nameplate r.of_record.interconnection_zone_least r.of_record.interconnection_zone)
        (zone-added t.export p.terms.export_zone p.terms.energy long.export r.of_record.export_zone_least r.of_record.export_zone)
        refl)

    -- of a package without priority
    pub added-zoned : p.terms.unqualified ≡ 1 → zoned dated_too ≡ added t p
    added-zoned is = ap (λ b. zoned_if b dated_too) (sym (eq-eqb p.terms.unqualified 1 is)) ∙ added_is

    -- of a package with priority
    pub added-plain : (p.terms.unqualified ≡ 1 → ⊥) → dated_too ≡ added t p
    added-plain not = ap (λ b. zoned_if b dated_too) (sym (ne_eqb p.terms.unqualified 1 not)) ∙ added_is
