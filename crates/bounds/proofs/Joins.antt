-- Why the passes find the packages that could be taken with others: those others keep the rules, so only what concerns the package can break one.
use Rattle.std.proofs.Common.{◌≡◌, ℕ, le_trans, ◌+◌, ◌-◌, ◌≤◌, max, min, Bool, true, false, not, ◌&&◌, ◌||◌, eqb, leb, ◌⊎◌, List, [], ◌∷◌, get_or, Decides, refl, sym, ap, ◌∙◌, ap₂, subst, inl, inr, ⊎_elim, zero-add, arith, cond}
use Rattle.std.specs.List.{AllByRecursion as Every, filter, list_all}
use Rattle.std.proofs.ByRecursion.{All-weaker, All-get_or, All-from_get_or, Decides-by_and}
use Rattle.std.proofs.lemmas.Bool.{and_from, and_parts, both_ways, cases_Bool, cases_lt, cond-true, cond-false, cond_both, eq-eqb, or_cases, or_left, or_right, eqb-true, leb-true, le-leb}
use Rattle.std.proofs.lemmas.Bool.Decides.{same_from_decides, Decides-like, Decides-and}
use Rattle.offers.specs.declared.records.Pair.{Pair}
use Rattle.offers.specs.declared.records.Exclusion.{Exclusion}
use Rattle.offers.specs.declared.records.Limit.{Limit}
use Rattle.offers.specs.Tables.{pair_layout, exclusion_layout}
use Rattle.clearing.specs.declared.dockets.PricedPackage.{PricedPackage}
use Rattle.clearing.specs.declared.tallies.Tally.{Tally}
use Rattle.clearing.specs.Choices.{nameplates, exports, has_number}
use Rattle.clearing.specs.Judging.{pairs_kept, exclusions_kept, zones_kept}
use Rattle.clearing.specs.Ranges.{fits, package_fits}
use Rattle.clearing.specs.Tallies.{row, tally_of}
use Rattle.clearing.specs.Lawful.{View}
use Rattle.clearing.specs.Ranged.{Ranged}
use Rattle.clearing.proofs.Fits.{each-most, pair_ranges, ExclusionRanges, exclusion_ranges, PackageRanges, priced_ranges}
use Rattle.clearing.proofs.Held.{no_exclusion}
use Rattle.clearing.proofs.Judged.{pairs_tell, exclusions_tell, zones_tell}
use Rattle.clearing.proofs.RowRules.{row_at, all_both}
use Rattle.clearing.proofs.Rows.{getD_row}
use Rattle.clearing.proofs.Tallying.{Bounded}
use Rattle.bounds.specs.Rules.{joins}
use Rattle.bounds.specs.Live.{cleared, needs, head, unopposed, tightest, room}
use Rattle.bounds.proofs.Cleared.{cleared_decides}

-- a test passed by every element, as a fact of every element
each_every : {X : Type 0} (f : X → Bool) (xs : List X) → Decides (list_all f xs) (Every (λ x. f x ≡ true) xs)
each_every f xs = Decides-by_and f (λ x. f x ≡ true) (list_all f) (λ x. ((λ e. e), (λ e. e))) refl (λ _ _. refl) xs

-- a number is taken if its place says so
takes_is : (T : List PricedPackage) (t : Tally) → t ≡ tally_of T → (n : ℕ) → n ≤ 40 → get_or t.takes n false ≡ has_number n T
takes_is T t counted n h =
    ap (λ t. get_or t.takes n false) counted
    ∙ getD_row (λ n. has_number n T) 0 41 n false (omega arith)
    ∙ ap (λ m. has_number m T) (zero-add n)

module _ (T : List PricedPackage) (p : PricedPackage) where
  -- the package is with them
  it-is : (n : ℕ) → n ≡ p.number → has_number n (p ∷ T) ≡ true
  it-is n e = or_left (eqb p.number n) (has_number n T) (eq-eqb p.number n (sym e))

  -- and so are they
  they-are : (n : ℕ) → has_number n T ≡ true → has_number n (p ∷ T) ≡ true
  they-are n has = or_right (eqb p.number n) (has_number n T) has

  -- and no other
  either-is : (n : ℕ) → has_number n (p ∷ T) ≡ true → (n ≡ p.number) ⊎ (has_number n T ≡ true)
  either-is n has = ⊎_elim (λ e. inl (sym (eqb-true p.number n e))) (λ e. inr e) (or_cases (eqb p.number n) (has_number n T) has)

  -- the rule of pairs
  pub pairs-joined : (W : List PricedPackage) (w : Tally) → w ≡ tally_of W → (pairs : List Pair) → list_all (fits pair_layout) pairs ≡ true → pairs_kept pairs T W ≡ true
      → cleared (λ (q : Pair). q.dependent) (needs w.takes) pairs p.number ≡ pairs_kept pairs (p ∷ T) W
  pairs-joined W w others pairs ok kept =
      let ranges = (each_every (fits pair_layout) pairs).0 ok in
      let rule = (pairs_tell pairs T W).0 kept in
      same_from_decides _ _
      (Decides-like _
      (λ clear.
      All-weaker _ _ (λ q all. λ has. ⊎_elim
      (λ is. sym (takes_is W w others q.needed (pair_ranges q all.1).needed) ∙ all.0.0 is)
      (λ had. all.0.1 had)
      (either-is q.dependent has)) pairs
      ((all_both _ _ pairs).1 ((all_both _ _ pairs).1 (clear, rule), ranges)))
      (λ met.
      All-weaker _ _ (λ q all. λ is. takes_is W w others q.needed (pair_ranges q all.1).needed ∙ all.0 (it-is q.dependent is)) pairs
      ((all_both _ _ pairs).1 (met, ranges)))
      (cleared_decides (λ (q : Pair). q.dependent) (needs w.takes) p.number pairs))
      (pairs_tell pairs (p ∷ T) W)

-- the greater of two numbers is one of them
max-has : (P : ℕ → Type 0) (a b : ℕ) → P a → P b → P (max a b)
max-has P a b one other =
    ⊎_elim (λ less. let is : max a b ≡ b = omega arith in subst P (sym is) other) (λ more. let is : max a b ≡ a = omega arith in subst P (sym is) one) (cases_lt a b)

module _ (takes : List Bool) where
  -- what holds of 0 and of each taken member of a group holds of what stands for it
  head-has : (P : ℕ → Type 0) → P 0 → (group : ℕ) (es : List Exclusion) → Every (λ f. f.group ≡ group → get_or takes f.member false ≡ true → P f.member) es → P (head takes es group)
  head-has P none group [] all = none
  head-has P none group (e ∷ es) all =
      max-has P _ _
      (cond_both (eqb e.group group && get_or takes e.member false) e.member 0 P
      (λ both. let parts = and_parts (eqb e.group group) (get_or takes e.member false) both in all.0 (eqb-true e.group group parts.0) parts.1)
      (λ _. none))
      (head-has P none group es all.1)

  -- no taken member of a group is greater
  head-most : (group : ℕ) (es : List Exclusion) → Every (λ f. f.group ≡ group → get_or takes f.member false ≡ true → f.member ≤ head takes es group) es
  head-most group [] = tt
  head-most group (e ∷ es) = (
    (λ same is.
        let counts : cond (eqb e.group group && get_or takes e.member false) e.member 0 ≡ e.member = cond-true _ e.member 0 (and_from _ _ (eq-eqb e.group group same) is) in
        omega (arith, counts)),
    All-weaker _ _ (λ f most. λ same is. omega (arith, most same is)) es (head-most group es),
  )

  -- so none of its own
  own-most : (es : List Exclusion) → Every (λ f. get_or takes f.member false ≡ true → f.member ≤ head takes es f.group) es
  own-most es =
      All-from_get_or _ es no_exclusion (λ j h. All-get_or _ es j no_exclusion h (head-most (get_or es j no_exclusion).group es) refl)

module _ (T : List PricedPackage) (t : Tally) (counted : t ≡ tally_of T) (xs : List Exclusion) (ok : list_all (fits exclusion_layout) xs ≡ true) (kept : exclusions_kept xs T ≡ true) where
  -- what stands for each group
  abbrev heads : List ℕ
  heads = row (head t.takes xs) 1 16

  -- two members of a group, of which both are taken, are one
  abbrev OneOf : List PricedPackage → Exclusion → Exclusion → Type 0
  OneOf S e f = e.group ≡ f.group → has_number e.member S ≡ true → has_number f.member S ≡ true → e.member ≡ f.member

  -- What is known of each exclusion.
  record Known (f : Exclusion) : Type 0 where
    ranges : ExclusionRanges f
    one : Every (OneOf T f) xs
    most : get_or t.takes f.member false ≡ true → f.member ≤ head t.takes xs f.group

  ranged : Every (λ f. fits exclusion_layout f ≡ true) xs
  ranged = (each_every (fits exclusion_layout) xs).0 ok

  known : Every Known xs
  known =
      All-weaker _ _ (λ f all. record { ranges = exclusion_ranges f all.1; one = all.0.0; most = all.0.1 }) xs
      ((all_both _ _ xs).1 ((all_both _ _ xs).1 ((exclusions_tell xs T).0 kept, own-most t.takes xs), ranged))

  -- what stands at the place of a group
  head-at : (e : Exclusion) → ExclusionRanges e → get_or heads (e.group - 1) 0 ≡ head t.takes xs e.group
  head-at e r = row_at (head t.takes xs) 16 e.group r.group_least r.group

  -- a taken member of a group is the same as one that no other stands before
  same_as : (e f : Exclusion) → ExclusionRanges e → Known f → e.group ≡ f.group → unopposed heads e ≡ true → has_number f.member T ≡ true → e.member ≡ f.member
  same_as e f r k same fine has =
      let taken = takes_is T t counted f.member k.ranges.member ∙ has in
      let at = head-at e r ∙ ap (head t.takes xs) same in
      let most = k.most taken in
      let low = k.ranges.member_least in
      let Is : ℕ → Type 0 = λ m. (m ≡ 0) ⊎ (f.member ≡ m) in
      let stands : Is (head t.takes xs f.group) =
      head-has t.takes Is (inl refl) f.group xs (All-weaker _ _ (λ g all. λ of is. inr (all.0 (sym of) has (sym (takes_is T t counted g.member (exclusion_ranges g all.1).member) ∙ is))) xs ((all_both _ _ xs).1 (k.one, ranged))) in
      ⊎_elim
      (λ none. absurd (omega (arith, at, most, low, eqb-true _ 0 none)))
      (λ it. ⊎_elim (λ none. absurd (omega (arith, none, most, low))) (λ is. omega (arith, at, is, eqb-true _ e.member it)) stands)
      (or_cases (eqb (get_or heads (e.group - 1) 0) 0) (eqb (get_or heads (e.group - 1) 0) e.member) fine)

  -- the rule of groups
  pub groups-joined : (p : PricedPackage) → cleared (λ (e : Exclusion). e.member) (unopposed heads) xs p.number ≡ exclusions_kept xs (p ∷ T)
  groups-joined p =
      same_from_decides _ _
      (Decides-like _
      (λ clear.
      let both = (all_both _ _ xs).1 (clear, known) in
      All-weaker _ _ (λ e one. All-weaker _ _ (λ f other. λ same has had.
      ⊎_elim
      (λ is. ⊎_elim
      (λ is'. is ∙ sym is')
      (λ among. same_as e f one.1.ranges other.0.1 same (one.0 is) among)
      (either-is T p f.member had))
      (λ in-it. ⊎_elim
      (λ is'. sym (same_as f e other.0.1.ranges one.1 (sym same) (other.0.0 is') in-it))
      (λ among. other.1 same in-it among)
      (either-is T p f.member had))
      (either-is T p e.member has)) xs ((all_both _ _ xs).1 (both, one.1.one))) xs both)
      (λ rule.
      All-weaker _ _ (λ e all. λ is.
      let r = exclusion_ranges e all.1 in
      let Is : ℕ → Type 0 = λ m. (m ≡ 0) ⊎ (m ≡ e.member) in
      let stands : Is (head t.takes xs e.group) =
      head-has t.takes Is (inl refl) e.group xs (All-weaker _ _ (λ g both. λ of chosen. inr (sym (both.0 (sym of) (it-is T p e.member is) (they-are T p g.member (sym (takes_is T t counted g.member (exclusion_ranges g both.1).member) ∙ chosen))))) xs ((all_both _ _ xs).1 (all.0, ranged))) in
      ⊎_elim
      (λ none. or_left _ _ (eq-eqb _ 0 (head-at e r ∙ none)))
      (λ it. or_right _ _ (eq-eqb _ e.member (head-at e r ∙ it)))
      stands) xs ((all_both _ _ xs).1 (rule, ranged)))
      (cleared_decides (λ (e : Exclusion). e.member) (unopposed heads) p.number xs))
      (exclusions_tell xs (p ∷ T))

module _ (sort zone n : ℕ) where
  -- a load within the least of a zone's limits of a sort is within each
  within-each : (ls : List Limit) → n ≤ tightest sort ls zone → Every (λ l. l.sort ≡ sort → l.zone ≡ zone → n ≤ l.amount) ls
  within-each [] h = tt
  within-each (l ∷ ls) h =
      let least = tightest sort ls zone in
      let rest : n ≤ least = le_trans h (cond_both (eqb l.sort sort && eqb l.zone zone) (min l.amount least) least (λ m. m ≤ least) (λ _. omega arith) (λ _. omega arith)) in (
        (λ is at.
            let both : tightest sort (l ∷ ls) zone ≡ min l.amount least = cond-true _ _ least (and_from _ _ (eq-eqb l.sort sort is) (eq-eqb l.zone zone at)) in
            omega (arith, both, h)),
        within-each ls rest,
      )

  -- and one within each is within the least
  within-least : n ≤ 1000000000000 → (ls : List Limit) → Every (λ l. l.sort ≡ sort → l.zone ≡ zone → n ≤ l.amount) ls → n ≤ tightest sort ls zone
  within-least few [] all = few
  within-least few (l ∷ ls) all =
      let rest = within-least few ls all.1 in
      cond_both (eqb l.sort sort && eqb l.zone zone) _ _ (λ m. n ≤ m)
      (λ both.
      let parts = and_parts (eqb l.sort sort) (eqb l.zone zone) both in
      omega (arith, rest, all.0 (eqb-true l.sort sort parts.0) (eqb-true l.zone zone parts.1)))
      (λ _. rest)

-- loads of zones with one package more, within limits of a sort
abbrev Loads : ℕ → Bool → ℕ → ℕ → (ℕ → ℕ) → Limit → Type 0
Loads sort counts zone amount load l = l.sort ≡ sort → cond (counts && eqb zone l.zone) amount 0 + load l.zone ≤ l.amount

-- where the others are within them, the package has room if its zone has
loads_decide : (sort : ℕ) (counts : Bool) (zone amount : ℕ) (load : ℕ → ℕ) (ls : List Limit) → Every (λ l. l.sort ≡ sort → load l.zone ≤ l.amount) ls → load zone + amount ≤ 1000000000000
    → Decides (not counts || leb (load zone + amount) (tightest sort ls zone)) (Every (Loads sort counts zone amount load) ls)
loads_decide sort false zone amount load ls kept few = ((λ _. All-weaker _ _ (λ l rule. λ is. omega (arith, rule is)) ls kept), (λ _. refl))
loads_decide sort true zone amount load ls kept few =
    let x = load zone + amount in (
      (λ e.
          All-weaker _ _ (λ l all. λ is.
          cond_both (eqb zone l.zone) amount 0 (λ m. m + load l.zone ≤ l.amount)
          (λ here. let at = eqb-true zone l.zone here in omega (arith, ap load at, all.0 is (sym at)))
          (λ _. omega (arith, all.1 is))) ls ((all_both _ _ ls).1 (within-each sort zone x ls (leb-true x (tightest sort ls zone) e), kept))),
      (λ all.
          le-leb x (tightest sort ls zone) (within-least sort zone x few ls (All-weaker _ _ (λ l rule. λ is at.
          let here : cond (eqb zone l.zone) amount 0 ≡ amount = cond-true _ amount 0 (eq-eqb zone l.zone (sym at)) in
          omega (arith, ap load at, here, rule is)) ls all))),
    )

-- a test before two, as before each
spread : (a b c : Bool) → (not a || (b && c)) ≡ ((not a || b) && (not a || c))
spread true b c = refl
spread false b c = refl

module _ (T : List PricedPackage) (t : Tally) (counted : t ≡ tally_of T) (bounded : Bounded 400000000 t) (ls : List Limit) (kept : zones_kept ls T ≡ true) (p : PricedPackage) (r : PackageRanges p.terms) where
  -- the limits of zones
  pub zones-joined : room (row (tightest 1 ls) 1 16) (row (tightest 2 ls) 1 16) t p.terms ≡ zones_kept ls (p ∷ T)
  zones-joined =
      let counts = eqb p.terms.unqualified 1 in
      let from = p.terms.interconnection_zone in
      let to = p.terms.export_zone in
      let rule = (all_both _ _ ls).0 ((zones_tell ls T).0 kept) in
      let load-from = ap (λ (t : Tally). get_or t.nameplate (from - 1) 0) counted ∙ row_at (λ z. nameplates z T) 16 from r.interconnection_zone_least r.interconnection_zone in
      let load-to = ap (λ (t : Tally). get_or t.export (to - 1) 0) counted ∙ row_at (λ z. exports z T) 16 to r.export_zone_least r.export_zone in
      let least-from = row_at (tightest 1 ls) 16 from r.interconnection_zone_least r.interconnection_zone in
      let least-to = row_at (tightest 2 ls) 16 to r.export_zone_least r.export_zone in
      let one = loads_decide 1 counts from p.terms.nameplate (λ z. nameplates z T) ls rule.0 (omega (arith, load-from, r.nameplate, each-most 400000000 t.nameplate (from - 1) bounded.nameplate)) in
      let other = loads_decide 2 counts to p.terms.energy (λ z. exports z T) ls rule.1 (omega (arith, load-to, r.energy, each-most 400000000 t.export (to - 1) bounded.export)) in
      ap₂ (λ a b. not counts || (a && b))
      (ap₂ (λ n m. leb (n + p.terms.nameplate) m) load-from least-from)
      (ap₂ (λ n m. leb (n + p.terms.energy) m) load-to least-to)
      ∙ spread counts _ _
      ∙ same_from_decides _ _
      (Decides-like _ (λ both. (all_both _ _ ls).1 both) (λ all. (all_both _ _ ls).0 all) (Decides-and _ _ one other))
      (zones_tell ls (p ∷ T))

-- what stands in a row of tests by offer number
test-at : (f : ℕ → Bool) (n : ℕ) → n ≤ 40 → get_or (row f 0 41) n false ≡ f n
test-at f n few = getD_row f 0 41 n false (omega arith) ∙ ap f (zero-add n)

module _ {d : View} (ok : Ranged d) (T W : List PricedPackage) where
  -- do the others keep the rules?
  abbrev pub keep : Bool
  keep =
      pairs_kept d.pairs T W
      && (exclusions_kept d.exclusions T && zones_kept d.limits T)

  -- what the passes say of a package
  abbrev pub passed : Tally → Tally → PricedPackage → Bool
  passed t w p =
      get_or (row (cleared (λ (q : Pair). q.dependent) (needs w.takes) d.pairs) 0 41) p.number false
      && (get_or (row (cleared (λ (e : Exclusion). e.member) (unopposed (row (head t.takes d.exclusions) 1 16)) d.exclusions) 0 41) p.number false
      && room (row (tightest 1 d.limits) 1 16) (row (tightest 2 d.limits) 1 16) t p.terms)

  -- where the others keep the rules, that is whether it could be taken with them
  pub joins-passed : (t w : Tally) → t ≡ tally_of T → w ≡ tally_of W → Bounded 400000000 t → keep ≡ true → (p : PricedPackage) → package_fits p ≡ true
      → passed t w p ≡ joins d T W p
  joins-passed t w counted others bounded kept p fits =
      let r = priced_ranges p fits in
      let one = and_parts (pairs_kept d.pairs T W) _ kept in
      let two = and_parts (exclusions_kept d.exclusions T) (zones_kept d.limits T) one.1 in
      ap₂ (λ a b. a && b)
      (test-at (cleared (λ (q : Pair). q.dependent) (needs w.takes) d.pairs) p.number r.number ∙ pairs-joined T p W w others d.pairs ok.pairs one.0)
      (ap₂ (λ a b. a && b)
      (test-at (cleared (λ (e : Exclusion). e.member) (unopposed (row (head t.takes d.exclusions) 1 16)) d.exclusions) p.number r.number ∙ groups-joined T t counted d.exclusions ok.exclusions two.0 p)
      (zones-joined T t counted bounded d.limits two.1 p r.of_record))

  -- where a package could be taken with them, they do
  joins-keep : (p : PricedPackage) → joins d T W p ≡ true → keep ≡ true
  joins-keep p joined =
      let pairs = d.pairs in
      let xs = d.exclusions in
      let ls = d.limits in
      let one = and_parts (pairs_kept pairs (p ∷ T) W) _ joined in
      let two = and_parts (exclusions_kept xs (p ∷ T)) (zones_kept ls (p ∷ T)) one.1 in
      and_from _ _
      ((pairs_tell pairs T W).1 (All-weaker _ _ (λ q rule. λ has. rule (they-are T p q.dependent has)) pairs ((pairs_tell pairs (p ∷ T) W).0 one.0)))
      (and_from _ _
      ((exclusions_tell xs T).1 (All-weaker _ _ (λ e. All-weaker _ _ (λ f rule. λ same one other. rule same (they-are T p e.member one) (they-are T p f.member other)) xs) xs ((exclusions_tell xs (p ∷ T)).0 two.0)))
      ((zones_tell ls T).1 (All-weaker _ _ (λ l rule. ((λ is. omega (arith, rule.0 is)), (λ is. omega (arith, rule.1 is)))) ls ((zones_tell ls (p ∷ T)).0 two.1))))

  -- so where they do not, none could
  pub none-joins : keep ≡ false → (ps : List PricedPackage) → filter (joins d T W) ps ≡ []
  none-joins fails [] = refl
  none-joins fails (p ∷ ps) =
      let no-one : joins d T W p ≡ false = ⊎_elim (λ joined. absurd (both_ways _ fails (joins-keep p joined))) (λ fine. fine) (cases_Bool (joins d T W p)) in
      cond-false (joins d T W p) _ _ no-one ∙ none-joins fails ps
