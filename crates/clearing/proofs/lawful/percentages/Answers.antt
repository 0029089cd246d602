-- `percentages`: the zone of a percentage has a place, where the lesser of two stands.
use Rattle.std.specs.List.{list_all}
use Rattle.std.proofs.Common.{◌≡◌, ℕ, List, min, true, leb, get_or, take, set, sym, ap, ◌∙◌, subst, ap₂, arith}
use Rattle.std.proofs.lemmas.Bool.{eqb-true, eqb-false}
use Rattle.std.proofs.lemmas.List.{take_more}
use Rattle.clearing.specs.Lawful.{percentage}
use Rattle.clearing.specs.Tallies.{row}
use Rattle.clearing.proofs.Held.{no_limit, limit_ranged}
use Rattle.clearing.proofs.Percentages.{percentages_same, percentages_set, percentages_most}
use Rattle.clearing.proofs.lawful.percentages.Goals as goal
use Rattle.clearing.proofs.lawful.percentages.Goals.{then-is_on, else-is_on}

-- a place of a row set to the lesser of what stood there and an amount, by what the row was
lesser_set : (next least row_before : List ℕ) (zone lesser amount : ℕ) → next ≡ set least zone lesser → lesser ≡ min (get_or least zone 0) amount → least ≡ row_before
    → next ≡ set row_before zone (min (get_or row_before zone 0) amount)
lesser_set next least row_before zone lesser amount sets is was =
    sets ∙ ap₂ (λ xs n. set xs zone n) was (is ∙ ap (λ xs. min (get_or xs zone 0) amount) was)

pub loop-limit-preserved : goal.loop-limit-preserved
loop-limit-preserved c =
    let ls = c.as_slice-limit-items.result.now in
    let i = c.loop-limit.limit-index in
    let l = get_or ls i no_limit in
    let inside = c.loop-limit-test.true in
    let more = ap (λ ls. row (percentage ls) 1 4) (sym (take_more ls i no_limit inside)) in
    elim c.if-is_on.branch [
      | then-is_on w ↦
          let ranges = limit_ranged c.docket.invariant i ls c.as_slice-limit-items.ensures.value inside in
          let is = eqb-true l.sort 3 (sym w.if-is_on.ensures) in
          lesser_set _ _ _ _ _ _ w.least-is (omega arith) c.loop-limit.invariant
          ∙ percentages_set (take i ls) l is ranges.zone_least (ranges.percentage_zone is)
          ∙ more
      | else-is_on w ↦
          w.least-is ∙ c.loop-limit.invariant ∙ percentages_same (take i ls) l (eqb-false l.sort 3 (sym w.if-is_on.ensures)) ∙ more
    ]

pub returns-clause-bound : goal.returns-clause-bound
returns-clause-bound c =
    subst (λ ps. list_all (λ n. leb n 100) ps ≡ true) (sym c.loop-limit.invariant)
    (percentages_most (take c.loop-limit.limit-index c.as_slice-limit-items.result.now) 1 4)
