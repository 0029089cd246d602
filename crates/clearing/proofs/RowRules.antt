-- The rules over a tally's rows say the same as those over the packages that it counts.
use Rattle.std.proofs.Common.{◌≡◌, ℕ, ◌-◌, ◌≤◌, Bool, true, false, List, [], ◌∷◌, get_or, sym, ap, ◌∙◌, subst, zero-add, arith}
use Rattle.std.specs.List.{AllByRecursion as Every, list_all}
use Rattle.std.proofs.lemmas.Bool.{and_parts}
use Rattle.offers.specs.declared.records.Pair.{Pair}
use Rattle.offers.specs.declared.records.Exclusion.{Exclusion}
use Rattle.offers.specs.declared.records.Limit.{Limit}
use Rattle.offers.specs.Tables.{pair_layout, exclusion_layout, limit_layout}
use Rattle.clearing.specs.declared.dockets.PricedPackage.{PricedPackage}
use Rattle.clearing.specs.declared.tallies.Tally.{Tally}
use Rattle.clearing.specs.Choices.{nameplates, exports, has_number}
use Rattle.clearing.specs.Kept.{PairsKept, ExclusionsKept, ZonesKept}
use Rattle.clearing.specs.Ranges.{fits}
use Rattle.clearing.specs.Tallies.{row, tally_of}
use Rattle.clearing.proofs.Fits.{pair_ranges, exclusion_ranges, limit_ranges}
use Rattle.clearing.proofs.Rows.{getD_row}

-- what stands in a row at the place of a number that counts from 1
pub row_at : (f : ℕ → ℕ) (count m : ℕ) → 1 ≤ m → m ≤ count → get_or (row f 1 count) (m - 1) 0 ≡ f m
row_at f count m low high = getD_row f 1 count (m - 1) 0 (omega arith) ∙ ap f (omega arith)

-- two rules that say the same
abbrev pub Same : Type 0 → Type 0 → Type 0
Same P Q = (P → Q) × (Q → P)

-- rules that say the same of each element in range say the same of a list
each_same : {X : Type 0} (test : X → Bool) (P Q : X → Type 0) → ((x : X) → test x ≡ true → Same (P x) (Q x))
    → (xs : List X) → list_all test xs ≡ true → Same (Every P xs) (Every Q xs)
each_same test P Q same [] ok = ((λ _. tt), (λ _. tt))
each_same test P Q same (x ∷ xs) ok =
    let parts = and_parts (test x) (list_all test xs) ok in
    let here = same x parts.0 in
    let rest = each_same test P Q same xs parts.1 in
    ((λ all. (here.0 all.0, rest.0 all.1)), (λ all. (here.1 all.0, rest.1 all.1)))

-- two rules of each element, as one rule after the other
pub all_both : {X : Type 0} (P Q : X → Type 0) (xs : List X) → Same (Every (λ x. P x × Q x) xs) (Every P xs × Every Q xs)
all_both P Q [] = ((λ _. (tt, tt)), (λ _. tt))
all_both P Q (x ∷ xs) =
    let rest = all_both P Q xs in (
      (λ all. ((all.0.0, (rest.0 all.1).0), (all.0.1, (rest.0 all.1).1))),
      (λ both. ((both.0.0, both.1.0), rest.1 (both.0.1, both.1.1))),
    )

-- a number is taken if its place says so
takes_is : (T : List PricedPackage) (t : Tally) → t ≡ tally_of T → (n : ℕ) → n ≤ 40 → get_or t.takes n false ≡ has_number n T
takes_is T t counted n h =
    ap (λ t. get_or t.takes n false) counted
    ∙ getD_row (λ n. has_number n T) 0 41 n false (omega arith)
    ∙ ap (λ m. has_number m T) (zero-add n)

module _ (T : List PricedPackage) (t : Tally) (counted : t ≡ tally_of T) where
  -- the rule of pairs says the same over both, the needed packages being among others
  pub pairs-same : (W : List PricedPackage) (w : Tally) → w ≡ tally_of W → (ps : List Pair) → list_all (fits pair_layout) ps ≡ true
      → Same (PairsKept ps t.takes w.takes) (Every (λ p. has_number p.dependent T ≡ true → has_number p.needed W ≡ true) ps)
  pairs-same W w others ps ok =
      each_same (fits pair_layout) _ _ (λ p e.
      let r = pair_ranges p e in
      let dependent = takes_is T t counted p.dependent r.dependent in
      let needed = takes_is W w others p.needed r.needed in
      ((λ kept has. sym needed ∙ kept (dependent ∙ has)), (λ kept has. needed ∙ kept (sym dependent ∙ has)))) ps ok

  -- so does the rule of exclusions
  pub exclusions-same : (xs : List Exclusion) → list_all (fits exclusion_layout) xs ≡ true
      → Same (ExclusionsKept xs t.takes) (Every (λ e. Every (λ f. e.group ≡ f.group → has_number e.member T ≡ true → has_number f.member T ≡ true → e.member ≡ f.member) xs) xs)
  exclusions-same xs ok =
      each_same (fits exclusion_layout) _ _ (λ x e.
      each_same (fits exclusion_layout) _ _ (λ y f.
      let one = takes_is T t counted x.member (exclusion_ranges x e).member in
      let other = takes_is T t counted y.member (exclusion_ranges y f).member in
      ((λ kept same a b. kept same (one ∙ a) (other ∙ b)), (λ kept same a b. kept same (sym one ∙ a) (sym other ∙ b))))
      xs ok) xs ok

  -- so do the limits of zones
  pub zones-same : (ls : List Limit) → list_all (fits limit_layout) ls ≡ true
      → Same (ZonesKept ls t.nameplate t.export) (Every (λ l. (l.sort ≡ 1 → nameplates l.zone T ≤ l.amount) × (l.sort ≡ 2 → exports l.zone T ≤ l.amount)) ls)
  zones-same ls ok =
      each_same (fits limit_layout) _ _ (λ l e.
      let r = limit_ranges l e in
      let nameplate = ap (λ t. get_or t.nameplate (l.zone - 1) 0) counted ∙ row_at (λ z. nameplates z T) 16 l.zone r.zone_least r.zone in
      let export = ap (λ t. get_or t.export (l.zone - 1) 0) counted ∙ row_at (λ z. exports z T) 16 l.zone r.zone_least r.zone in (
        (λ kept. ((λ is. subst (λ n. n ≤ l.amount) nameplate (kept.0 is)), (λ is. subst (λ n. n ≤ l.amount) export (kept.1 is)))),
        (λ kept. ((λ is. subst (λ n. n ≤ l.amount) (sym nameplate) (kept.0 is)), (λ is. subst (λ n. n ≤ l.amount) (sym export) (kept.1 is)))),
      )) ls ok
