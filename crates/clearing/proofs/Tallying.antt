-- The tally of a list of packages: with one more at its end, and what its sums are at most.
use Rattle.std.specs.List.{list_all}
use Rattle.std.proofs.Common.{◌≡◌, ℕ, ◌*◌, ◌≤◌, true, false, ◌&&◌, ◌||◌, eqb, leb, List, [], ◌∷◌, ◌++◌, length, pos, ◌+ℤ◌, ◌≤ℤ◌, sym, refl, ap, ◌∙◌, zero-add, arith, cond}
use Rattle.std.proofs.lemmas.Int.{ints}
use Rattle.std.proofs.lemmas.Bool.{and_parts, cond_both, eq-eqb, ne_eqb, or_left, or_right}
use Rattle.offers.specs.declared.records.Package.{Package}
use Rattle.clearing.specs.declared.dockets.PricedPackage.{PricedPackage}
use Rattle.clearing.specs.declared.tallies.Tally.{Tally}
use Rattle.clearing.specs.Choices.{supplied, has_number, cost}
use Rattle.clearing.specs.Ranges.{package_fits}
use Rattle.clearing.specs.Tallies.{tally_of, added, Room}
use Rattle.clearing.proofs.Fits.{PackageRanges, priced_ranges}
use Rattle.clearing.proofs.Rows.{row-set, where_most}
use Rattle.clearing.proofs.Totals.{totals_append, totals_most}

-- what a package with a date counts in a market
abbrev dated_amount : ℕ → ℕ → PricedPackage → ℕ
dated_amount date m p = cond (eqb p.terms.date date) (supplied m p.terms) 0

-- what it counts in an interconnection zone
abbrev nameplate_amount : ℕ → PricedPackage → ℕ
nameplate_amount zone p = cond (eqb p.terms.unqualified 1 && eqb p.terms.interconnection_zone zone) p.terms.nameplate 0

-- what it counts in an export zone
abbrev export_amount : ℕ → PricedPackage → ℕ
export_amount zone p = cond (eqb p.terms.unqualified 1 && eqb p.terms.export_zone zone) p.terms.energy 0

-- a package taken last is among them
has_last : (ps : List PricedPackage) (p : PricedPackage) → has_number p.number (ps ++ p ∷ []) ≡ true
has_last [] p = or_left (eqb p.number p.number) false (eq-eqb p.number p.number refl)
has_last (q ∷ ps) p = or_right (eqb q.number p.number) _ (has_last ps p)

-- any other number is among them if it was before
has_other : (ps : List PricedPackage) (p : PricedPackage) (n : ℕ) → (n ≡ p.number → ⊥) → has_number n (ps ++ p ∷ []) ≡ has_number n ps
has_other [] p n ne = rw (ne_eqb p.number n (λ e. ne (sym e)))
has_other (q ∷ ps) p n ne = ap (λ b. eqb q.number n || b) (has_other ps p n ne)

-- the last price is added last
cost_last : (ps : List PricedPackage) (p : PricedPackage) → cost (ps ++ p ∷ []) ≡ cost ps +ℤ p.price
cost_last [] p = omega (arith, ints)
cost_last (q ∷ ps) p = omega (arith, ints, cost_last ps p)

-- tallies that agree in every sum are the same
pub tally_same : (t u : Tally) → t.takes ≡ u.takes → t.supply ≡ u.supply → t.before ≡ u.before → t.after ≡ u.after
    → t.nameplate ≡ u.nameplate → t.export ≡ u.export → t.cost ≡ u.cost → t ≡ u
tally_same t u takes supply before after nameplate export cost =
    λ i. record {
      takes = takes i;
      supply = supply i;
      before = before i;
      after = after i;
      nameplate = nameplate i;
      export = export i;
      cost = cost i;
    }

-- a tally of one package more is the tally with that package added
pub tally_last : (ps : List PricedPackage) (p : PricedPackage) → tally_of (ps ++ p ∷ []) ≡ added (tally_of ps) p
tally_last ps p =
    tally_same (tally_of (ps ++ p ∷ [])) (added (tally_of ps) p)
    (row-set (λ n. has_number n ps) (λ n. has_number n (ps ++ p ∷ [])) true 0 41 p.number
    (rw zero-add (has_last ps p)) (λ n ne. has_other ps p n (λ e. ne (e ∙ sym (zero-add p.number)))))
    (totals_append (λ m q. supplied m q.terms) ps (p ∷ []) 1 5)
    (totals_append (dated_amount 1) ps (p ∷ []) 1 5)
    (totals_append (dated_amount 2) ps (p ∷ []) 1 5)
    (totals_append nameplate_amount ps (p ∷ []) 1 16)
    (totals_append export_amount ps (p ∷ []) 1 16)
    (cost_last ps p)

-- what a package supplies to a market is at most its greatest amount
supplied-most : (m : ℕ) (p : Package) → PackageRanges p → supplied m p ≤ 10000000
supplied-most m p r =
    cond_both (eqb m 4) _ _ (λ n. n ≤ 10000000) (λ _. r.energy)
    (λ _. cond_both (eqb m 5) _ _ (λ n. n ≤ 10000000) (λ _. r.certificates)
    (λ _. where_most (eqb p.power_zone m) p.power 10000000 (omega arith)))

-- No sum but the cost is above a bound.
pub record Bounded (all : ℕ) (t : Tally) : Type 0 where
  pub supply : list_all (λ n. leb n all) t.supply ≡ true
  pub before : list_all (λ n. leb n all) t.before ≡ true
  pub after : list_all (λ n. leb n all) t.after ≡ true
  pub nameplate : list_all (λ n. leb n all) t.nameplate ≡ true
  pub export : list_all (λ n. leb n all) t.export ≡ true

-- the sums of so many packages are at most so many times the greatest amount
pub tally_bounded : (few : ℕ) (ps : List PricedPackage) → list_all package_fits ps ≡ true → length ps ≤ few → Bounded (few * 10000000) (tally_of ps)
tally_bounded few ps ok short =
    let amounts = λ (f : ℕ → PricedPackage → ℕ) (count : ℕ) (small : (m : ℕ) (p : PricedPackage) → package_fits p ≡ true → f m p ≤ 10000000).
    totals_most package_fits f few 10000000 (few * 10000000) ps 1 count small ok short (omega arith) in
    record {
      supply = amounts (λ m p. supplied m p.terms) 5 (λ m p e. supplied-most m p.terms (priced_ranges p e).of_record);
      before = amounts (dated_amount 1) 5 (λ m p e. where_most _ _ 10000000 (supplied-most m p.terms (priced_ranges p e).of_record));
      after = amounts (dated_amount 2) 5 (λ m p e. where_most _ _ 10000000 (supplied-most m p.terms (priced_ranges p e).of_record));
      nameplate = amounts nameplate_amount 16 (λ m p e. let r = priced_ranges p e in where_most _ p.terms.nameplate 10000000 (omega arith));
      export = amounts export_amount 16 (λ m p e. let r = priced_ranges p e in where_most _ p.terms.energy 10000000 (omega arith));
    }

-- so many packages cost at most so many times the greatest price, either way
pub cost_between : (ps : List PricedPackage) → list_all package_fits ps ≡ true
    → (pos 0 ≤ℤ (cost ps +ℤ pos (20000000000 * length ps))) × (cost ps ≤ℤ pos (20000000000 * length ps))
cost_between [] ok = (omega (arith, ints), omega (arith, ints))
cost_between (p ∷ ps) ok =
    let parts = and_parts (package_fits p) (list_all package_fits ps) ok in
    let r = priced_ranges p parts.0 in
    let rest = cost_between ps parts.1 in
    (omega (arith, ints), omega (arith, ints))

-- The cost is one that at most 40 packages can have.
pub record Priced (t : Tally) : Type 0 where
  pub low : pos 0 ≤ℤ (t.cost +ℤ pos 800000000000)
  pub high : t.cost ≤ℤ pos 800000000000

-- with at most 39 packages in there is room for one more
pub room_for : (ps : List PricedPackage) → list_all package_fits ps ≡ true → length ps ≤ 39 → Room (tally_of ps)
room_for ps ok short =
    let sums = tally_bounded 39 ps ok short in
    let between = cost_between ps ok in
    record {
      supply = sums.supply;
      before = sums.before;
      after = sums.after;
      nameplate = sums.nameplate;
      export = sums.export;
      low = omega (arith, ints, between.0);
      high = omega (arith, ints, between.1);
    }
