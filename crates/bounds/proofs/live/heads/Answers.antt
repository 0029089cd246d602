-- `heads`: a taken member more stands for its group if it is greater than those so far.
use Rattle.std.proofs.Common.{◌≡◌, ℕ, ◌+◌, ◌-◌, ◌<◌, ◌≤◌, max, Bool, true, false, ◌&&◌, eqb, List, [], ◌∷◌, ◌++◌, length, get_or, set, take, sym, ap, ◌∙◌, ap₂, arith, cond}
use Rattle.std.proofs.lemmas.List.{take_more}
use Rattle.std.proofs.lemmas.Bool.{and_from, and_left, and_right, cond-true, cond-false, eq-eqb, ne_eqb}
use Rattle.offers.specs.declared.records.Exclusion.{Exclusion}
use Rattle.clearing.specs.Tallies.{row}
use Rattle.clearing.proofs.Held.{no_exclusion, exclusion_held}
use Rattle.clearing.proofs.Rows.{getD_row, row_same, row-set}
use Rattle.bounds.specs.Live.{head}
use Rattle.bounds.proofs.live.heads.Goals as goal
use Rattle.bounds.proofs.live.heads.Goals.{then-tally-exclusion, else-tally-exclusion}

-- what one exclusion counts in a group
abbrev one_head : List Bool → ℕ → Exclusion → ℕ
one_head takes group e = cond (eqb e.group group && get_or takes e.member false) e.member 0

-- with one more at the end
head-last : (takes : List Bool) (group : ℕ) (es : List Exclusion) (e : Exclusion) → head takes (es ++ e ∷ []) group ≡ max (head takes es group) (one_head takes group e)
head-last takes group [] e = omega arith
head-last takes group (f ∷ es) e = omega (arith, head-last takes group es e)

module _ (takes : List Bool) (xs : List Exclusion) (i : ℕ) (inside : i < length xs) where
  -- the next exclusion
  abbrev next : Exclusion
  next = get_or xs i no_exclusion

  -- with it
  head_more : (group : ℕ) → head takes (take (i + 1) xs) group ≡ max (head takes (take i xs) group) (one_head takes group next)
  head_more group = ap (λ es. head takes es group) (take_more xs i no_exclusion inside) ∙ head-last takes group (take i xs) next

  -- where its member is taken, the greater stands for its group
  head-there : 1 ≤ next.group → next.group ≤ 16 → get_or takes next.member false ≡ true
      → set (row (head takes (take i xs)) 1 16) (next.group - 1) (max (get_or (row (head takes (take i xs)) 1 16) (next.group - 1) 0) next.member) ≡ row (head takes (take (i + 1) xs)) 1 16
  head-there low high is =
      let place = next.group - 1 in
      let group : 1 + place ≡ next.group = omega arith in
      let old : get_or (row (head takes (take i xs)) 1 16) place 0 ≡ head takes (take i xs) (1 + place) = getD_row (head takes (take i xs)) 1 16 place 0 (omega arith) in
      sym (row-set (head takes (take i xs)) (head takes (take (i + 1) xs)) _ 1 16 place
      (head_more (1 + place) ∙ ap₂ max (sym old) (cond-true _ next.member 0 (and_from _ _ (eq-eqb next.group (1 + place) (sym group)) is)))
      (λ m ne.
      let none : one_head takes m next ≡ 0 = cond-false _ next.member 0 (and_left _ _ (ne_eqb next.group m (λ e. ne (sym e ∙ sym group)))) in
      omega (arith, head_more m, none)))

  -- where it is not, nothing changes
  head-same : get_or takes next.member false ≡ false → row (head takes (take i xs)) 1 16 ≡ row (head takes (take (i + 1) xs)) 1 16
  head-same not =
      row_same (head takes (take i xs)) (head takes (take (i + 1) xs)) 1 16 (λ m h.
      let none : one_head takes m next ≡ 0 = cond-false _ next.member 0 (and_right (eqb next.group m) _ not) in
      omega (arith, head_more m, none))

pub loop-exclusion-preserved : goal.loop-exclusion-preserved
loop-exclusion-preserved c =
    let takes = c.args.tally.now.takes in
    let xs = c.as_slice-exclusion-items.result.now in
    let i = c.loop-exclusion.exclusion-index in
    let inside = c.loop-exclusion-test.true in
    let e = get_or xs i no_exclusion in
    let r = exclusion_held c.docket.invariant i xs c.as_slice-exclusion-items.ensures.value inside in
    elim c.if-tally-exclusion.branch [
      | then-tally-exclusion w ↦
          w.heads-is
          ∙ ap (set c.loop-exclusion.heads (e.group - 1)) w.max.ensures
          ∙ ap (λ hs. set hs (e.group - 1) (max (get_or hs (e.group - 1) 0) e.member)) c.loop-exclusion.invariant
          ∙ head-there takes xs i inside r.group_least r.group w.if-tally-exclusion.true
      | else-tally-exclusion w ↦ w.heads-is ∙ c.loop-exclusion.invariant ∙ head-same takes xs i inside w.if-tally-exclusion.false
    ]
