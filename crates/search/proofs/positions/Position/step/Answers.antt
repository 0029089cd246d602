-- `step`: the block that is skipped lies within the docket.
use Rattle.std.proofs.Common.{sym, subst, arith}
use Rattle.std.proofs.lemmas.Grind.{common_steps}
use Rattle.bounds.specs.Blocks.{InDocket}
use Rattle.search.specs.Search.{next_block}
use Rattle.search.proofs.Placings.{block_inside}
use Rattle.search.proofs.positions.Position.step.Goals as goal

pub returns-in-None-clause-value : goal.returns-in-None-clause-value
returns-in-None-clause-value g c = λ placed below.
    let v = c.args.docket.now in
    let skipped = c.skip.ensures.value (omega (arith, block_inside v c.args.self placed below, c.requires.few)) in
    let answer = c.consult.ensures.answer (subst (λ at. InDocket v (next_block at)) (sym c.self.view_is) (placed.block below)) in
    grind (arith, common_steps)

pub returns-in-Some-clause-value : goal.returns-in-Some-clause-value
returns-in-Some-clause-value g c = λ placed below.
    let v = c.args.docket.now in
    let skipped = c.skip-in-Some.ensures.value (omega (arith, block_inside v c.args.self placed below, c.requires.few)) in
    let answer = c.consult.ensures.answer (subst (λ at. InDocket v (next_block at)) (sym c.self.view_is) (placed.block below)) in
    grind (arith, common_steps)
