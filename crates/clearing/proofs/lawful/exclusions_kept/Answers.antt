-- `exclusions_kept`: the taken member that stands for a group is compared with each that comes after it.
use Rattle.std.proofs.Common.{◌≡◌, ◌-◌, ℕ, Some, None, get_or, sym, ap, subst, ◌∙◌}
use Rattle.clearing.specs.Kept.{ExclusionsKept}
use Rattle.clearing.proofs.Held.{no_exclusion}
use Rattle.clearing.proofs.Exclusions.{one_member, firsts_passed, firsts_taken, firsts_differ, firsts_all}
use Rattle.clearing.proofs.Tested.{decided_true, decided_false}
use Rattle.clearing.proofs.lawful.exclusions_kept.Goals as goal
use Rattle.clearing.proofs.lawful.exclusions_kept.Goals.{then-tally-member+in_default, in_default-via-in-Some+else-other-member, in_default-via-in_default, else-tally-member}

pub loop-exclusion-preserved : goal.loop-exclusion-preserved
loop-exclusion-preserved c =
    let xs = c.as_slice-exclusion-items.result.now in
    let here = c.loop-exclusion in
    elim c.if-tally-member.branch [
      | then-tally-member+in_default w ↦
          let x = get_or xs here.exclusion-index no_exclusion in
          let free : (other : ℕ) → get_or here.first (x.group - 1) None ≡ Some other → other ≡ x.member =
          λ other is. elim w.in_default.branch [
            | in_default-via-in-Some+else-other-member v ↦ one_member _ _ (sym is ∙ v.in-Some.is) ∙ v.if-other-member.false
            | in_default-via-in_default v ↦ cc
          ] in
          firsts_taken c.docket.invariant xs c.as_slice-exclusion-items.ensures.value c.args.tally.now.takes here.exclusion-index here.first c.loop-exclusion-test.true here.invariant _ w.if-tally-member.true free w.first-is
      | else-tally-member w ↦
          firsts_passed c.docket.invariant xs c.as_slice-exclusion-items.ensures.value c.args.tally.now.takes here.exclusion-index here.first c.loop-exclusion-test.true here.invariant _ w.if-tally-member.false w.first-is
    ]

pub returns-in-Some : goal.returns-in-Some
returns-in-Some c =
    let xs = c.as_slice-exclusion-items.result.now in
    let here = c.loop-exclusion in
    decided_false (λ kept.
    firsts_differ c.docket.invariant xs c.as_slice-exclusion-items.ensures.value c.args.tally.now.takes here.exclusion-index here.first c.loop-exclusion-test.true here.invariant
    c.if-tally-member.true c.in-Some.other c.in-Some.is c.if-other-member.true
    (subst (λ es. ExclusionsKept es c.args.tally.now.takes) (sym (c.as_slice-exclusion-items.ensures.value ∙ ap (λ v. v.exclusions) c.docket.view_is)) kept))

pub returns : goal.returns
returns c =
    let xs = c.as_slice-exclusion-items.result.now in
    decided_true (subst (λ es. ExclusionsKept es c.args.tally.now.takes) (c.as_slice-exclusion-items.ensures.value ∙ ap (λ v. v.exclusions) c.docket.view_is)
    (firsts_all c.docket.invariant xs c.as_slice-exclusion-items.ensures.value c.args.tally.now.takes c.loop-exclusion.exclusion-index c.loop-exclusion.first c.loop-exclusion-test.false c.loop-exclusion.invariant))
