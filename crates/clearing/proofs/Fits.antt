-- What a test of ranges tells: of each element of a list, and of each field of a record.
use Rattle.std.proofs.Common.{◌≡◌, ℕ, zero, suc, ◌+◌, ◌<◌, ◌≤◌, Bool, true, false, cond, not, ◌&&◌, eqb, leb, List, [], ◌∷◌, ◌++◌, length, get_or, take, set, ℤ, ◌≤ℤ◌, Decides, refl, subst, ⊎_elim, arith, w64, SFits, to_z, of_z}
use lib.Signed.{le_z}
use Rattle.std.specs.List.{AllByRecursion as Every, list_all}
use Rattle.std.proofs.ByRecursion.{All-get_or, All-push, All-set, All-take, Decides-by_and}
use Rattle.std.proofs.lemmas.List.{get_or_past}
use Rattle.std.proofs.lemmas.Int.{ints, to_z-of_z}
use Rattle.std.proofs.lemmas.Bool.{and_parts, and_from, leb-true, le-leb, eqb-true, eqb-false, eq-eqb, not-true, cases_lt}
use Rattle.offers.specs.declared.records.Package.{Package}
use Rattle.offers.specs.declared.records.Band.{Band}
use Rattle.offers.specs.declared.records.Pair.{Pair}
use Rattle.offers.specs.declared.records.Exclusion.{Exclusion}
use Rattle.offers.specs.declared.records.Limit.{Limit}
use Rattle.offers.specs.declared.registers.Entry.{Entry}
use Rattle.offers.specs.declared.registers.Entry.TheVariants.{Vacant, Open}
use Rattle.offers.specs.Fields.{within, first_false, allowed_by}
use Rattle.offers.specs.Layouts.{Layout, fault_of}
use Rattle.offers.specs.Registers.{InRange, entry_fault}
use Rattle.offers.specs.Tables.{package_layout, band_layout, pair_layout, exclusion_layout, limit_layout}
use Rattle.pricing.specs.Prices.{least, greatest}
use Rattle.clearing.specs.declared.dockets.PricedPackage.{PricedPackage}
use Rattle.clearing.specs.declared.dockets.OpenBand.{OpenBand}
use Rattle.clearing.specs.Ranges.{fits, price_fits, package_fits, band_fits}

module _ {X : Type 0} (f : X → Bool) where
  -- a test passed by every element, as a fact of every element
  each_all : (xs : List X) → Decides (list_all f xs) (Every (λ x. f x ≡ true) xs)
  each_all = Decides-by_and f (λ x. f x ≡ true) (list_all f) (λ x. ((λ e. e), (λ e. e))) refl (λ _ _. refl)

  -- the element at a place passes
  pub each_getD : (xs : List X) (i : ℕ) (d : X) → i < length xs → list_all f xs ≡ true → f (get_or xs i d) ≡ true
  each_getD xs i d h e = All-get_or (λ x. f x ≡ true) xs i d h ((each_all xs).0 e)

  -- as what comes from that place
  pub each_item : (xs : List X) (i : ℕ) (x : X) → i < length xs → x ≡ get_or xs i x → list_all f xs ≡ true → f x ≡ true
  each_item xs i x h is e = rw is (each_getD xs i x h e)

  -- so does what is read at any place, if the default passes
  pub each_read : (xs : List X) (i : ℕ) (d : X) → f d ≡ true → list_all f xs ≡ true → f (get_or xs i d) ≡ true
  each_read xs i d ok e =
      ⊎_elim (λ h. each_getD xs i d h e) (λ h. rw (get_or_past xs i d h) ok) (cases_lt i (length xs))

  -- one more that passes
  pub each_push : (xs : List X) (x : X) → list_all f xs ≡ true → f x ≡ true → list_all f (xs ++ x ∷ []) ≡ true
  each_push xs x e ok = (each_all (xs ++ x ∷ [])).1 (All-push (λ x. f x ≡ true) xs x ((each_all xs).0 e) ok)

  -- one that passes in the place of another
  pub each_set : (xs : List X) (i : ℕ) (x : X) → f x ≡ true → list_all f xs ≡ true → list_all f (set xs i x) ≡ true
  each_set xs i x ok e = (each_all (set xs i x)).1 (All-set (λ x. f x ≡ true) xs i x ok ((each_all xs).0 e))

  -- the first so many pass
  pub each_take : (n : ℕ) (xs : List X) → list_all f xs ≡ true → list_all f (take n xs) ≡ true
  each_take n xs e = (each_all (take n xs)).1 (All-take (λ x. f x ≡ true) n xs ((each_all xs).0 e))

-- a number read at any place of a row is at most what each of the row is
pub each-most : (most : ℕ) (xs : List ℕ) (i : ℕ) → list_all (λ n. leb n most) xs ≡ true → get_or xs i 0 ≤ most
each-most most xs i e = leb-true (get_or xs i 0) most (each_read (λ n. leb n most) xs i 0 (le-leb 0 most (omega arith)) e)

-- a number in range is no less than the least
pub within-least : (low high n : ℕ) → within low high n ≡ true → low ≤ n
within-least low high n e = leb-true low n (and_parts (leb low n) (leb n high) e).0

-- and no more than the greatest
pub within-most : (low high n : ℕ) → within low high n ≡ true → n ≤ high
within-most low high n e = leb-true n high (and_parts (leb low n) (leb n high) e).1

-- a number between the two is in range
pub within-from : (low high n : ℕ) → low ≤ n → n ≤ high → within low high n ≡ true
within-from low high n h k = and_from (leb low n) (leb n high) (le-leb low n h) (le-leb n high k)

-- a number in one of two ranges is in the wider one
within_either : (b : Bool) (low narrow wide n : ℕ) → narrow ≤ wide
    → cond b (within low narrow n) (within low wide n) ≡ true → within low wide n ≡ true
within_either true low narrow wide n h e =
    let most : n ≤ narrow = within-most low narrow n e in
    within-from low wide n (within-least low narrow n e) (omega arith)
within_either false low narrow wide n h e = e

-- where no test is the first to fail, the one at any place passes
none_fails : (n : ℕ) (bs : List Bool) → 0 < n → first_false n bs ≡ 0 → (i : ℕ) → get_or bs i true ≡ true
none_fails n [] h e i = refl
none_fails n (true ∷ bs) h e zero = refl
none_fails n (true ∷ bs) h e (suc i) = none_fails (n + 1) bs (omega arith) e i
none_fails n (false ∷ bs) h e i = absurd (omega arith)

-- each field of a record in range is in range
pub field-allowed : {R : Type 0} (k : Layout R) (r : R) → fits k r ≡ true
    → (i : ℕ) → get_or (allowed_by k.fields r) i true ≡ true
field-allowed k r e = none_fails 2 (allowed_by k.fields r) (omega arith) (eqb-true (fault_of k r) 0 e)

-- an open record of a register in range is in range
pub open_fits : {R : Type 0} (k : Layout R) (es : List (Entry R)) (i : ℕ) (r : R)
    → InRange k es → get_or es i Vacant ≡ Open r → fits k r ≡ true
open_fits k es i r ok e = eq-eqb (fault_of k r) 0 (subst (λ x. entry_fault k x ≡ 0) e (ok i))

-- The ranges of a package's fields.
pub record PackageRanges (p : Package) : Type 0 where
  pub power : p.power ≤ 10000
  pub energy : p.energy ≤ 10000000
  pub certificates : p.certificates ≤ 10000000
  pub nameplate : p.nameplate ≤ 100000
  pub power_zone_least : 1 ≤ p.power_zone
  pub power_zone : p.power_zone ≤ 3
  pub interconnection_zone_least : 1 ≤ p.interconnection_zone
  pub interconnection_zone : p.interconnection_zone ≤ 16
  pub export_zone_least : 1 ≤ p.export_zone
  pub export_zone : p.export_zone ≤ 16
  pub date : p.date ≤ 2
  pub unqualified : p.unqualified ≤ 1

-- a package in range has its fields in theirs
pub package_ranges : (p : Package) → fits package_layout p ≡ true → PackageRanges p
package_ranges p e =
    let ok = field-allowed package_layout p e in
    record {
      power = within-most 0 10000 _ (ok 0);
      energy = within-most 0 10000000 _ (ok 1);
      certificates = within-most 0 10000000 _ (ok 2);
      nameplate = within-most 0 100000 _ (ok 3);
      power_zone_least = within-least 1 3 _ (ok 5);
      power_zone = within-most 1 3 _ (ok 5);
      interconnection_zone_least = within-least 1 16 _ (ok 6);
      interconnection_zone = within-most 1 16 _ (ok 6);
      export_zone_least = within-least 1 16 _ (ok 7);
      export_zone = within-most 1 16 _ (ok 7);
      date = within-most 0 2 _ (ok 9);
      unqualified = within-most 0 1 _ (ok 10);
    }

-- The ranges of a band's fields.
pub record BandRanges (b : Band) : Type 0 where
  pub market_least : 1 ≤ b.market
  pub market : b.market ≤ 5
  pub quantity : b.quantity ≤ 100000000
  pub price : b.price ≤ 10000000
  pub buyer_least : 1 ≤ b.buyer
  pub buyer : b.buyer ≤ 16

-- so has a band
pub band_ranges : (b : Band) → fits band_layout b ≡ true → BandRanges b
band_ranges b e =
    let ok = field-allowed band_layout b e in
    record {
      market_least = within-least 1 5 _ (ok 0);
      market = within-most 1 5 _ (ok 0);
      quantity = within-most 1 100000000 _ (ok 1);
      price = within-most 0 10000000 _ (ok 2);
      buyer_least = within-least 1 16 _ (ok 3);
      buyer = within-most 1 16 _ (ok 3);
    }

-- The ranges of a pair's fields.
pub record PairRanges (p : Pair) : Type 0 where
  pub dependent : p.dependent ≤ 40
  pub needed : p.needed ≤ 40
  pub apart : p.needed ≡ p.dependent → ⊥

-- so has a pair
pub pair_ranges : (p : Pair) → fits pair_layout p ≡ true → PairRanges p
pair_ranges p e =
    let ok = field-allowed pair_layout p e in
    let needed = and_parts (within 1 40 p.needed) (not (eqb p.needed p.dependent)) (ok 1) in
    record {
      dependent = within-most 1 40 _ (ok 0);
      needed = within-most 1 40 _ needed.0;
      apart = eqb-false _ _ (not-true _ needed.1);
    }

-- The ranges of an exclusion's fields.
pub record ExclusionRanges (e : Exclusion) : Type 0 where
  pub group_least : 1 ≤ e.group
  pub group : e.group ≤ 16
  pub member_least : 1 ≤ e.member
  pub member : e.member ≤ 40

-- so has an exclusion
pub exclusion_ranges : (x : Exclusion) → fits exclusion_layout x ≡ true → ExclusionRanges x
exclusion_ranges x e =
    let ok = field-allowed exclusion_layout x e in
    record {
      group_least = within-least 1 16 _ (ok 0);
      group = within-most 1 16 _ (ok 0);
      member_least = within-least 1 40 _ (ok 1);
      member = within-most 1 40 _ (ok 1);
    }

-- The ranges of a limit's fields; those of a percentage are narrower.
pub record LimitRanges (l : Limit) : Type 0 where
  pub zone_least : 1 ≤ l.zone
  pub zone : l.zone ≤ 16
  pub amount : l.amount ≤ 1000000000
  pub percentage_zone : l.sort ≡ 3 → l.zone ≤ 4
  pub percentage : l.sort ≡ 3 → l.amount ≤ 100

-- so has a limit
pub limit_ranges : (l : Limit) → fits limit_layout l ≡ true → LimitRanges l
limit_ranges l e =
    let ok = field-allowed limit_layout l e in
    let zone = within_either (eqb l.sort 3) 1 4 16 l.zone (omega arith) (ok 1) in
    let amount = within_either (eqb l.sort 3) 0 100 1000000000 l.amount (omega arith) (ok 2) in
    record {
      zone_least = within-least 1 16 _ zone;
      zone = within-most 1 16 _ zone;
      amount = within-most 0 1000000000 _ amount;
      percentage_zone = λ is. within-most 1 4 _ (rw (eq-eqb l.sort 3 is) at (ok 1));
      percentage = λ is. within-most 0 100 _ (rw (eq-eqb l.sort 3 is) at (ok 2));
    }

-- The ranges of a package with its number and its price.
pub record PricedRanges (p : PricedPackage) : Type 0 where
  pub of_record : PackageRanges p.terms
  pub number_least : 1 ≤ p.number
  pub number : p.number ≤ 40
  pub price_least : least ≤ℤ p.price
  pub price : p.price ≤ℤ greatest

-- a price in range lies between the least and the greatest
pub price_between : (price : ℤ) → price_fits price ≡ true → (least ≤ℤ price) × (price ≤ℤ greatest)
price_between price e =
    let parts = and_parts (le_z least price) (le_z price greatest) e in
    (grind (arith, ints), grind (arith, ints))

-- a price between them is in range
pub price-from : (price : ℤ) → least ≤ℤ price → price ≤ℤ greatest → price_fits price ≡ true
price-from price low high = and_from (le_z least price) (le_z price greatest) (grind (arith, ints)) (grind (arith, ints))

-- a price in range has room in 64 bits, and so is stored as it is
pub price-stored : (price : ℤ) → price_fits price ≡ true → to_z w64 (of_z w64 price) ≡ price
price-stored price e =
    let between = price_between price e in
    let room : SFits w64 price = omega (arith, ints, between.0, between.1) in
    to_z-of_z w64 price room

-- a package that fits has all of these
pub priced_ranges : (p : PricedPackage) → package_fits p ≡ true → PricedRanges p
priced_ranges p e =
    let parts = and_parts (fits package_layout p.terms) (within 1 40 p.number && price_fits p.price) e in
    let more = and_parts (within 1 40 p.number) (price_fits p.price) parts.1 in
    let between = price_between p.price more.1 in
    record {
      of_record = package_ranges p.terms parts.0;
      number_least = within-least 1 40 _ more.0;
      number = within-most 1 40 _ more.0;
      price_least = between.0;
      price = between.1;
    }

-- The ranges of an open band with its number and what stands ahead of it.
pub record OpenRanges (b : OpenBand) : Type 0 where
  pub of_record : BandRanges b.terms
  pub number_least : 1 ≤ b.number
  pub number : b.number ≤ 64
  pub ahead : b.ahead ≤ 6400000000

-- a band that fits has all of these
pub open_ranges : (b : OpenBand) → band_fits b ≡ true → OpenRanges b
open_ranges b e =
    let parts = and_parts (fits band_layout b.terms) (within 1 64 b.number && leb b.ahead 6400000000) e in
    let more = and_parts (within 1 64 b.number) (leb b.ahead 6400000000) parts.1 in
    record {
      of_record = band_ranges b.terms parts.0;
      number_least = within-least 1 64 _ more.0;
      number = within-most 1 64 _ more.0;
      ahead = leb-true b.ahead 6400000000 more.1;
    }
