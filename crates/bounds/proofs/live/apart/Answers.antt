-- `apart`: an exclusion bars its member where another stands for the group.
use Rattle.std.proofs.Common.{◌≡◌, ◌-◌, false, true, ◌||◌, get_or, set, ap, ◌∙◌, ap₂}
use Rattle.std.proofs.lemmas.Bool.{eq-eqb, ne_eqb, or_left, or_right}
use Rattle.offers.specs.declared.records.Exclusion.{Exclusion}
use Rattle.clearing.proofs.Held.{no_exclusion}
use Rattle.bounds.specs.Live.{unopposed}
use Rattle.bounds.proofs.Cleared.{cleared-bars, cleared-keeps}
use Rattle.bounds.proofs.live.apart.Goals as goal
use Rattle.bounds.proofs.live.apart.Goals.{then-head-ne0+then-head-exclusion, else-head-ne0, else-head-ne0-via-then-head-ne0+else-head-exclusion, else-head-ne0-via-else-head-ne0}

pub loop-exclusion-preserved : goal.loop-exclusion-preserved
loop-exclusion-preserved c =
    let key = λ (e : Exclusion). e.member in
    let heads = c.args.heads.now in
    let xs = c.as_slice-exclusion-items.result.now in
    let i = c.loop-exclusion.exclusion-index in
    let e = get_or xs i no_exclusion in
    let h = get_or heads (e.group - 1) 0 in
    let inside = c.loop-exclusion-test.true in
    elim c.if-head-ne0.branch [
      | then-head-ne0+then-head-exclusion w ↦
          w.apart-is
          ∙ ap (λ row. set row e.member false) c.loop-exclusion.invariant
          ∙ cleared-bars key (unopposed heads) xs i no_exclusion inside (ap₂ (λ a b. a || b) (ne_eqb h 0 w.if-head-ne0.true) (ne_eqb h e.member w.if-head-exclusion.true))
      | else-head-ne0 w ↦
          let fine : unopposed heads e ≡ true =
          elim w.else-head-ne0.branch [
            | else-head-ne0-via-then-head-ne0+else-head-exclusion w' ↦ or_right _ _ (eq-eqb h e.member w'.if-head-exclusion.false)
            | else-head-ne0-via-else-head-ne0 w' ↦ or_left _ _ (eq-eqb h 0 w'.if-head-ne0.false)
          ] in
          w.apart-is ∙ c.loop-exclusion.invariant ∙ cleared-keeps key (unopposed heads) xs i no_exclusion inside fine
    ]
