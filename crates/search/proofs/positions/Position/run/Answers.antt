-- `run`: each turn is one step, and what is left to do is the rest.
use Rattle.std.proofs.Common.{◌≡◌, suc, ◌+◌, ◌-◌, ◌<◌, ◌≤◌, true, sym, ap, ◌∙◌, subst, arith}
use Rattle.std.proofs.lemmas.Bool.{eq-eqb}
use Rattle.clearing.specs.Lawful.{choices}
use Rattle.clearing.proofs.ClosedRanges.{ranged-closing}
use Rattle.clearing.proofs.Judged.{worth_tells}
use Rattle.search.specs.Search.{Standing, Placed, Leads, finished, after_step, after_steps}
use Rattle.search.proofs.Placings.{Moved, not-finished, step-placed, finished-stays, goes_on, moves_on, settles}
use Rattle.search.proofs.Leadings.{step-leads}
use Rattle.search.proofs.positions.Position.run.Goals as goal

pub loop-preserved : goal.loop-preserved
loop-preserved g c =
    let v = c.args.docket.now in
    let rule = g.B.BoundingRule.answers c.args.rule.now in
    let at = c.loop.at in
    let so_far = c.loop.invariant in
    let below : at.settled < choices v = omega (arith, c.choices-all.ensures.count, c.if-at-all.false, ap (λ (a : Standing). a.settled) c.at.view_is) in
    let next = λ (placed : Placed v c.args.self). sym (c.step-at.ensures.value (so_far.placed placed) below ∙ ap (λ r. after_step r v at) so_far.same_rule) in
    record {
      leads_on = λ placed rest count.
          so_far.leads_on placed (suc rest) (omega arith) ∙ goes_on rule v rest at (not-finished v at below) ∙ ap (after_steps rule v rest) (next placed);
      placed = λ placed. subst (Placed v) (next placed) (step-placed rule v at (so_far.placed placed) below);
      moved = λ placed. subst (λ a. Moved c.args.self a (c.loop.counter + 1)) (next placed) (moves_on rule v c.args.self at c.loop.counter (so_far.moved placed));
      leads = λ placed closed first.
          let ranged = ranged-closing v closed in
          subst (Leads v) (next placed)
          (step-leads v ranged rule (worth_tells v ranged) (λ b. g.met.B.BoundingRule.sound c.args.rule.now v b closed) at (so_far.placed placed) below (so_far.leads placed closed first));
      same_rule = c.step-at.ensures.same_rule ∙ so_far.same_rule;
      falls = omega (arith, c.step-at.ensures.falls, so_far.falls);
      unmoved = λ none. absurd (omega arith);
    }

pub returns-after-loop-clause-runs : goal.returns-after-loop-clause-runs
returns-after-loop-clause-runs g c = λ placed.
    let inv = c.loop.invariant in
    let v = c.args.docket.now in
    record {
      steps = sym (inv.leads_on placed 0 (omega arith));
      placed = inv.placed placed;
      settles = λ below few. settles v c.args.self c.loop.at c.loop.counter placed below (omega arith) (inv.moved placed);
      leads = inv.leads placed;
    }

pub returns-then-at-all-clause-runs : goal.returns-then-at-all-clause-runs
returns-then-at-all-clause-runs g c = λ placed.
    let v = c.args.docket.now in
    let inv = c.loop.invariant in
    let all : choices v ≤ c.loop.at.settled = omega (arith, c.if-at-all.true, c.choices-all.ensures.count, ap (λ (a : Standing). a.settled) c.at.view_is) in
    let most = (inv.placed placed).most in
    let done : finished v c.loop.at ≡ true = eq-eqb _ _ (omega arith) in
    let rest = c.args.steps - c.loop.counter in
    record {
      steps = sym (inv.leads_on placed rest (omega arith) ∙ finished-stays (g.B.BoundingRule.answers c.args.rule.now) v rest c.loop.at done);
      placed = inv.placed placed;
      settles = λ below few. omega arith;
      leads = inv.leads placed;
    }
