-- The member of each group that is taken, as the exclusions are read one after another.
use Rattle.std.proofs.Common.{◌≡◌, ℕ, ◌+◌, ◌-◌, ◌<◌, ◌≤◌, Bool, false, ◌≢◌, List, Option, Some, None, length, get_or, set, sym, ap, ◌∙◌, subst, ⊎_elim, arith, length-set, get_or-set_other, get_or-set_same, below_more}
use Rattle.std.proofs.ByRecursion.{All-get_or, All-from_get_or}
use Rattle.std.proofs.lemmas.Bool.{cases_eq, both_ways}
use Rattle.offers.specs.declared.records.Exclusion.{Exclusion}
use Rattle.clearing.specs.Lawful.{View}
use Rattle.clearing.specs.Ranged.{Ranged}
use Rattle.clearing.specs.Kept.{In, ExclusionsKept}
use Rattle.clearing.proofs.Fits.{ExclusionRanges}
use Rattle.clearing.proofs.Held.{no_exclusion, exclusion_held}

-- the place of the group of an exclusion
abbrev place_of : List Exclusion → ℕ → ℕ
place_of xs k = (get_or xs k no_exclusion).group - 1

-- the member that it names
abbrev member_of : List Exclusion → ℕ → ℕ
member_of xs k = (get_or xs k no_exclusion).member

-- a member that stands for a group is one that is taken, of an exclusion among the first so many
abbrev Seen : List Exclusion → List Bool → ℕ → ℕ → ℕ → Type 0
Seen xs taken i group member =
    (k : ℕ) × (k < i) × (place_of xs k ≡ group) × In taken (member_of xs k) × (member_of xs k ≡ member)

-- Each taken member so far stands for its group, group g at place g - 1; and where one stands it was seen.
pub record Firsts (xs : List Exclusion) (taken : List Bool) (i : ℕ) (first : List (Option ℕ)) : Type 0 where
  pub long : length first ≡ 16
  pub stands : (k : ℕ) → k < i → In taken (member_of xs k) → get_or first (place_of xs k) None ≡ Some (member_of xs k)
  pub seen : (group member : ℕ) → get_or first group None ≡ Some member → Seen xs taken i group member

-- what stands at a place is one member
pub one_member : (a b : ℕ) → Some a ≡ Some b → a ≡ b
one_member a b e = cc

module _ {d : View} (ok : Ranged d) (xs : List Exclusion) (held : xs ≡ d.exclusions) (taken : List Bool) where
  -- the exclusion at a place is in range
  ranged : (k : ℕ) → k < length xs → ExclusionRanges (get_or xs k no_exclusion)
  ranged k h = exclusion_held ok k xs held h

  -- where each stands for its group, no two of a group differ
  pub firsts_all : (i : ℕ) (first : List (Option ℕ)) → length xs ≤ i → Firsts xs taken i first → ExclusionsKept xs taken
  firsts_all i first past now =
      All-from_get_or _ xs no_exclusion (λ j h. All-from_get_or _ xs no_exclusion (λ k l same one other.
      one_member _ _
      (sym (now.stands j (omega arith) one)
      ∙ ap (λ g. get_or first (g - 1) None) same
      ∙ now.stands k (omega arith) other)))

  module _ (i : ℕ) (first : List (Option ℕ)) (inside : i < length xs) (now : Firsts xs taken i first) where
    -- what was seen is still seen
    still_seen : (group member : ℕ) → Seen xs taken i group member → Seen xs taken (i + 1) group member
    still_seen group member (k, h, of, in-it, is) = (k, omega arith, of, in-it, is)

    -- a member that is not taken
    pub firsts_passed : (next : List (Option ℕ)) → get_or taken (member_of xs i) false ≡ false → next ≡ first → Firsts xs taken (i + 1) next
    firsts_passed next not e = subst (Firsts xs taken (i + 1)) (sym e) (record {
      long = now.long;
      stands = below_more _ i now.stands (λ chosen. absurd (both_ways _ not chosen));
      seen = λ group member is. still_seen group member (now.seen group member is);
    })

    -- a taken member that no other stands before in its group
    pub firsts_taken : (next : List (Option ℕ)) → In taken (member_of xs i)
        → ((other : ℕ) → get_or first (place_of xs i) None ≡ Some other → other ≡ member_of xs i)
        → next ≡ set first (place_of xs i) (Some (member_of xs i)) → Firsts xs taken (i + 1) next
    firsts_taken next chosen free e =
        let group = place_of xs i in
        let member = member_of xs i in
        let here = ranged i inside in
        let place : group < length first = omega (arith, now.long) in
        let same = get_or-set_same first group (Some member) None place in
        subst (Firsts xs taken (i + 1)) (sym e) (record {
          long = length-set first group (Some member) ∙ now.long;
          stands =
              below_more _ i
              (λ k h one. ⊎_elim
              (λ is.
              ap (λ g. get_or (set first group (Some member)) g None) is
              ∙ same
              ∙ ap Some (sym (free (member_of xs k) (ap (λ g. get_or first g None) (sym is) ∙ now.stands k h one))))
              (λ other. let ne : place_of xs k ≢ group = other in get_or-set_other first group (place_of xs k) (Some member) None ne ∙ now.stands k h one)
              (cases_eq (place_of xs k) group))
              (λ _. same);
          seen =
              λ g m some. ⊎_elim
              (λ is. (i, omega arith, sym is, chosen, one_member _ _ (sym (ap (λ g. get_or (set first group (Some member)) g None) is ∙ same) ∙ some)))
              (λ other. let ne : g ≢ group = other in still_seen g m (now.seen g m (sym (get_or-set_other first group g (Some member) None ne) ∙ some)))
              (cases_eq g group);
        })

    -- a taken member that differs from the one that stands for its group
    pub firsts_differ : In taken (member_of xs i) → (other : ℕ) → get_or first (place_of xs i) None ≡ Some other → other ≢ member_of xs i → ExclusionsKept xs taken → ⊥
    firsts_differ chosen other some differ kept =
        let old = now.seen (place_of xs i) other some in
        let k = old.0 in
        let there = ranged k (omega (arith, old.1)) in
        let here = ranged i inside in
        let same : (get_or xs k no_exclusion).group ≡ (get_or xs i no_exclusion).group = omega (arith, old.2) in
        differ (sym old.4 ∙ All-get_or _ xs i no_exclusion inside (All-get_or _ xs k no_exclusion (omega (arith, old.1)) kept) same old.3 chosen)
