-- What the tests of a choice decide: the rules of a lawful choice, over its packages and over a tally's rows.
use Rattle.std.proofs.Common.{◌≡◌, ℕ, ◌*◌, ◌≤◌, Bool, true, false, List, [], ◌∷◌, ℤ, Some, None, Decides, Option, sym, refl, ap, ◌∙◌, ⊎_elim, arith}
use Rattle.std.specs.List.{AllByRecursion as Every, list_all}
use Rattle.std.proofs.lemmas.Bool.{cases_Bool, both_ways}
use Rattle.std.proofs.lemmas.Bool.Decides.{same_from_decides, Decides-like, Decides-eqb, Decides-and}
use Rattle.std.proofs.ByRecursion.{Decides-by_and}
use Rattle.offers.specs.declared.records.Pair.{Pair}
use Rattle.offers.specs.declared.records.Exclusion.{Exclusion}
use Rattle.offers.specs.declared.records.Limit.{Limit}
use Rattle.offers.specs.Tables.{pair_layout, exclusion_layout, limit_layout}
use Rattle.clearing.specs.declared.dockets.PricedPackage.{PricedPackage}
use Rattle.clearing.specs.declared.tallies.Tally.{Tally}
use Rattle.clearing.specs.declared.sales.Sales.{Sales}
use Rattle.clearing.specs.Choices.{taken, supply, dated, nameplates, exports, has_number}
use Rattle.clearing.specs.Judging.{pairs_kept, exclusions_kept, zones_kept, share_kept, dates_kept, passes, worth_of}
use Rattle.clearing.specs.Lawful.{View, sold, percentage, Lawful, Worth, filled_sales}
use Rattle.clearing.specs.Kept.{PairsKept, ExclusionsKept, ZonesKept, DatesKept}
use Rattle.clearing.specs.Ranges.{fits}
use Rattle.clearing.specs.Sales.{sales_of}
use Rattle.clearing.specs.Tallies.{row, tally_of}
use Rattle.clearing.proofs.Filling.{best-filled, filled_small, filled_within}
use Rattle.clearing.specs.Ranged.{Ranged}
use Rattle.clearing.proofs.Ruled.{share-same}
use Rattle.clearing.proofs.Tested.{implies_decides, itself, decides_leb, of_three}
use Rattle.clearing.proofs.RowRules.{all_both, pairs-same, exclusions-same, zones-same}

-- a test of each element decides a rule of each
pub each_decides : {X : Type 0} (p : X → Bool) (P : X → Type 0) → ((x : X) → Decides (p x) (P x)) → (xs : List X) → Decides (list_all p xs) (Every P xs)
each_decides p P decides xs = Decides-by_and p P (list_all p) decides refl (λ _ _. refl) xs

-- the rule of pairs
pub pairs_tell : (pairs : List Pair) (T W : List PricedPackage)
    → Decides (pairs_kept pairs T W) (Every (λ p. has_number p.dependent T ≡ true → has_number p.needed W ≡ true) pairs)
pairs_tell pairs T W = each_decides _ _ (λ p. implies_decides _ _ (itself _) (itself _)) pairs

-- the rule of exclusions
pub exclusions_tell : (xs : List Exclusion) (T : List PricedPackage)
    → Decides (exclusions_kept xs T) (Every (λ e. Every (λ f. e.group ≡ f.group → has_number e.member T ≡ true → has_number f.member T ≡ true → e.member ≡ f.member) xs) xs)
exclusions_tell xs T =
    each_decides _ _ (λ e. each_decides _ _ (λ f.
    let all = implies_decides _ _ (Decides-and _ _ (Decides-eqb e.group f.group) (Decides-and _ _ (itself (has_number e.member T)) (itself (has_number f.member T)))) (Decides-eqb e.member f.member) in
    ((λ t same one other. all.0 t (same, (one, other))), (λ rule. all.1 (λ both. rule both.0 both.1.0 both.1.1)))) xs) xs

-- the limits of zones
pub zones_tell : (ls : List Limit) (T : List PricedPackage)
    → Decides (zones_kept ls T) (Every (λ l. (l.sort ≡ 1 → nameplates l.zone T ≤ l.amount) × (l.sort ≡ 2 → exports l.zone T ≤ l.amount)) ls)
zones_tell ls T =
    each_decides _ _ (λ l. Decides-and _ _
    (implies_decides _ _ (Decides-eqb l.sort 1) (decides_leb (nameplates l.zone T) l.amount))
    (implies_decides _ _ (Decides-eqb l.sort 2) (decides_leb (exports l.zone T) l.amount))) ls

module _ (T : List PricedPackage) (t : Tally) (counted : t ≡ tally_of T) (r : Bool) where
  -- what decides the rule of pairs over rows is the test over the packages that they count
  pub pairs-tested : (W : List PricedPackage) (w : Tally) → w ≡ tally_of W → (ps : List Pair) → list_all (fits pair_layout) ps ≡ true
      → Decides r (PairsKept ps t.takes w.takes) → r ≡ pairs_kept ps T W
  pairs-tested W w others ps ok decides =
      let same = pairs-same T t counted W w others ps ok in
      same_from_decides r _ (Decides-like r same.0 same.1 decides) (pairs_tell ps T W)

  -- so for exclusions
  pub groups_tested : (xs : List Exclusion) → list_all (fits exclusion_layout) xs ≡ true → Decides r (ExclusionsKept xs t.takes) → r ≡ exclusions_kept xs T
  groups_tested xs ok decides =
      let same = exclusions-same T t counted xs ok in
      same_from_decides r _ (Decides-like r same.0 same.1 decides) (exclusions_tell xs T)

  -- so for the limits of zones
  pub zones-tested : (ls : List Limit) → list_all (fits limit_layout) ls ≡ true → Decides r (ZonesKept ls t.nameplate t.export) → r ≡ zones_kept ls T
  zones-tested ls ok decides =
      let same = zones-same T t counted ls ok in
      same_from_decides r _ (Decides-like r same.0 same.1 decides) (zones_tell ls T)

-- the percentage of dated supply that a market keeps
abbrev Shared : View → List PricedPackage → List ℕ → ℕ → ℕ → ℕ → Type 0
Shared v T sales zone date m = 100 * dated date m T ≤ percentage v.limits zone * sold v.bands sales m

share_tells : (v : View) (T : List PricedPackage) (sales : List ℕ) (zone date m : ℕ) → Decides (share_kept v T sales zone date m) (Shared v T sales zone date m)
share_tells v T sales zone date m = decides_leb (100 * dated date m T) (percentage v.limits zone * sold v.bands sales m)

-- the percentages of dated supply
pub dates_tell : (v : View) (T : List PricedPackage) (sales : List ℕ)
    → Decides (dates_kept v T sales) (Every (λ m. Shared v T sales 1 1 m × Shared v T sales 2 2 m) (1 ∷ 2 ∷ 3 ∷ []) × (Shared v T sales 3 1 5 × Shared v T sales 4 2 5))
dates_tell v T sales =
    Decides-and _ _ (each_decides {X = ℕ} _ _ (λ m. Decides-and _ _ (share_tells v T sales 1 1 m) (share_tells v T sales 2 2 m)) (1 ∷ 2 ∷ 3 ∷ []))
    (Decides-and _ _ (share_tells v T sales 3 1 5) (share_tells v T sales 4 2 5))

-- tested over the sums of packages, and over what another choice sells, they are those of the packages
pub dates-tested : {d : View} → Ranged d → (T : List PricedPackage) (t : Tally) → t ≡ tally_of T → (choice : ℕ) (u : Tally) (s : Sales)
    → u ≡ tally_of (taken d.packages choice) → s ≡ sales_of d.bands u.supply
    → (r : Bool) → Decides r (DatesKept d.limits t s.sold) → r ≡ dates_kept d T (filled_sales d choice)
dates-tested {d} ok T t counted choice u s others filled-so r decides =
    let percent = percentage d.limits in
    let sales = filled_sales d choice in
    let before = λ (zone m : ℕ) (low : 1 ≤ m) (high : m ≤ 5). share-same ok choice u s others filled-so t.before (λ m. dated 1 m T) (percent zone) m (ap (λ t. t.before) counted) low high in
    let after = λ (zone m : ℕ) (low : 1 ≤ m) (high : m ≤ 5). share-same ok choice u s others filled-so t.after (λ m. dated 2 m T) (percent zone) m (ap (λ t. t.after) counted) low high in
    same_from_decides r _
    (Decides-like r
    (λ kept.
    let power : (m : ℕ) → 1 ≤ m → m ≤ 3 → Shared d T sales 1 1 m × Shared d T sales 2 2 m =
    λ m low high. ((before 1 m low (omega arith)).0 (kept.power_before m low high), (after 2 m low (omega arith)).0 (kept.power_after m low high)) in (
      (power 1 (omega arith) (omega arith), (power 2 (omega arith) (omega arith), (power 3 (omega arith) (omega arith), tt))),
      ((before 3 5 (omega arith) (omega arith)).0 kept.certificates_before, (after 4 5 (omega arith) (omega arith)).0 kept.certificates_after),
    ))
    (λ dates. record {
      power_before = λ m low high. (before 1 m low (omega arith)).1 (of_three (Shared d T sales 1 1) dates.0.0.0 dates.0.1.0.0 dates.0.1.1.0.0 m low high);
      power_after = λ m low high. (after 2 m low (omega arith)).1 (of_three (Shared d T sales 2 2) dates.0.0.1 dates.0.1.0.1 dates.0.1.1.0.1 m low high);
      certificates_before = (before 3 5 (omega arith) (omega arith)).1 dates.1.0;
      certificates_after = (after 4 5 (omega arith) (omega arith)).1 dates.1.1;
    })
    decides)
    (dates_tell d T sales)

-- the tests decide whether a choice is lawful with the filled sales, which are within quantities and supply
pub passes_tell : (v : View) → Ranged v → (choice : ℕ) → Decides (passes v (taken v.packages choice) (filled_sales v choice)) (Lawful v choice (filled_sales v choice))
passes_tell v ranged choice =
    let T = taken v.packages choice in
    let sales = filled_sales v choice in
    let tests = Decides-and _ _ (pairs_tell v.pairs T T) (Decides-and _ _ (exclusions_tell v.exclusions T) (Decides-and _ _ (zones_tell v.limits T) (dates_tell v T sales))) in
    Decides-like _
    (λ rules.
    let zones = (all_both _ _ v.limits).0 rules.1.1.0 in
    let dates = rules.1.1.1 in
    record {
      within_quantities = filled_small (row (λ m. supply m T) 1 5) v.bands;
      within_supply = λ m. filled_within v choice m ranged.order ranged.bands;
      pairs = rules.0;
      exclusions = rules.1.0;
      interconnection = zones.0;
      export = zones.1;
      power_before = of_three (Shared v T sales 1 1) dates.0.0.0 dates.0.1.0.0 dates.0.1.1.0.0;
      power_after = of_three (Shared v T sales 2 2) dates.0.0.1 dates.0.1.0.1 dates.0.1.1.0.1;
      certificates_before = dates.1.0;
      certificates_after = dates.1.1;
    })
    (λ lawful.
    let power : (m : ℕ) → 1 ≤ m → m ≤ 3 → Shared v T sales 1 1 m × Shared v T sales 2 2 m = λ m low high. (lawful.power_before m low high, lawful.power_after m low high) in (
      lawful.pairs,
      (
        lawful.exclusions,
        (
          (all_both _ _ v.limits).1 (lawful.interconnection, lawful.export),
          ((power 1 (omega arith) (omega arith), (power 2 (omega arith) (omega arith), (power 3 (omega arith) (omega arith), tt))), (lawful.certificates_before, lawful.certificates_after)),
        ),
      ),
    ))
    tests

-- so what a choice is worth, worked out, is what it is worth
pub worth_tells : (v : View) → Ranged v → (choice : ℕ) → Worth v choice (worth_of v choice)
worth_tells v ranged choice =
    let tests = passes_tell v ranged choice in
    ⊎_elim
    (λ (pass : passes v (taken v.packages choice) (filled_sales v choice) ≡ true). rw pass (tests.0 pass, refl))
    (λ (fail : passes v (taken v.packages choice) (filled_sales v choice) ≡ false).
    rw fail (λ sales lawful. both_ways _ fail (tests.1 ((best-filled v choice ranged.order ranged.bands).lawful sales lawful))))
    (cases_Bool _)

-- a choice is worth one thing
pub worth-once : (v : View) (choice : ℕ) (one other : Option ℤ) → Worth v choice one → Worth v choice other → one ≡ other
worth-once v choice (Some x) (Some y) one other = ap Some (one.1 ∙ sym other.1)
worth-once v choice (Some x) None one other = absurd (other _ one.0)
worth-once v choice None (Some y) one other = absurd (one _ other.0)
worth-once v choice None None one other = refl
