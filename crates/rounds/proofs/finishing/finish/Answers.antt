-- `finish`: one search more.
use Rattle.std.proofs.Common.{◌≡◌, ℕ, zero, suc, replicate, sym, refl, ap, ◌∙◌, subst}
use Rattle.rounds.specs.declared.closed_round.Searched.{Searched}
use Rattle.rounds.specs.Model.{Call, PlainRound, Stepped, Search, Found, step, after_from}
use Rattle.rounds.specs.Views.{of_closed, of_awarded, of_searched, gave, Falls}
use Rattle.rounds.proofs.Kept.{promised_again}
use Rattle.rounds.proofs.finishing.finish.Goals as goal

-- the same call once more
again : (m : PlainRound) (call : Call) (n : ℕ) → after_from m (replicate (suc n) call) ≡ (step (after_from m (replicate n call)) call).after
again m call zero = refl
again m call (suc n) = again (step m call).after call n

once_more : (m at left : PlainRound) (call : Call) (s : Stepped) → (n : ℕ) × (at ≡ after_from m (replicate n call)) → s ≡ step at call → left ≡ s.after → (n : ℕ) × (left ≡ after_from m (replicate n call))
once_more m at left call s led e l =
    (suc led.0, l ∙ ap (λ (x : Stepped). x.after) e ∙ ap (λ (x : PlainRound). (step x call).after) led.1 ∙ sym (again m call led.0))

pub turns-init : goal.turns-init
turns-init g c = record { led = (0, refl); same_rule = refl }

pub turns-smaller : goal.turns-smaller
turns-smaller g c =
    let steps = c.steps_a_turn-steps.ensures in
    subst (λ (s : Searched). Falls s c.turns.closed.at) c.in-Closed.is (c.search-next.ensures.falls steps.some steps.most)

pub turns-preserved : goal.turns-preserved
turns-preserved g c =
    let same = c.turns.invariant.same_rule in
    let steps = c.steps_a_turn-steps.result in
    record {
      led =
          once_more (of_closed c.args.round) (of_closed c.turns.closed) (of_closed c.in-Closed.still) (Search (g.B.BoundingRule.answers c.args.rule.now) steps)
          (gave (of_searched c.search-next.result.0) (Found c.search-next.result.1)) c.turns.invariant.led
          (c.search-next.ensures.served.step ∙ ap (λ r. step (of_closed c.turns.closed) (Search r steps)) same) (sym (ap of_searched c.in-Closed.is));
      same_rule = c.search-next.ensures.same_rule ∙ same;
    }

pub returns-in-Awarded-clause-finishes : goal.returns-in-Awarded-clause-finishes
returns-in-Awarded-clause-finishes g c =
    let same = c.turns.invariant.same_rule in
    let steps = c.steps_a_turn-steps.result in
    let led =
    once_more (of_closed c.args.round) (of_closed c.turns.closed) (of_awarded c.in-Awarded.done) (Search (g.B.BoundingRule.answers c.args.rule.now) steps)
    (gave (of_searched c.search-next.result.0) (Found c.search-next.result.1)) c.turns.invariant.led
    (c.search-next.ensures.served.step ∙ ap (λ r. step (of_closed c.turns.closed) (Search r steps)) same) (sym (ap of_searched c.in-Awarded.is)) in
    record {
      searches = led.0;
      steps = steps;
      some = c.steps_a_turn-steps.ensures.some;
      most = c.steps_a_turn-steps.ensures.most;
      is = led.1;
      run = promised_again (of_closed c.args.round) (Search (g.B.BoundingRule.answers c.args.rule.now) steps) led.0 (of_awarded c.in-Awarded.done) (g.met.B.BoundingRule.sound c.args.rule.now) led.1;
    }
