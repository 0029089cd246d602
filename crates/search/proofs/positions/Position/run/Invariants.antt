-- What the loop of `run` keeps true: the steps that are left lead where all would, and what a step keeps, so many have kept.
use Rattle.std.proofs.Common.{◌≡◌, ℕ, ◌+◌, ◌≤◌}
use Rattle.clearing.specs.Closing.{ByClosing}
use Rattle.search.specs.Search.{Placed, Leads, work_left, after_steps}
use Rattle.search.proofs.Placings.{Moved}
use Rattle.search.proofs.positions.Position.run.Given as goal

abbrev pub invariant-loop : goal.invariant-loop
invariant-loop g l = record {
  leads_on : Placed l.docket l.initial.at
      → (rest : ℕ) → l.counter + rest ≡ l.steps
      → after_steps (g.B.BoundingRule.answers l.initial.rule) l.docket l.steps l.initial.at
      ≡ after_steps (g.B.BoundingRule.answers l.initial.rule) l.docket rest l.at;
  placed : Placed l.docket l.initial.at → Placed l.docket l.at;
  moved : Placed l.docket l.initial.at → Moved l.initial.at l.at l.counter;
  leads : Placed l.docket l.initial.at → ByClosing l.docket → Leads l.docket l.initial.at → Leads l.docket l.at;
  same_rule : g.B.BoundingRule.answers l.rule ≡ g.B.BoundingRule.answers l.initial.rule;
  falls : work_left l.at + l.counter ≤ work_left l.initial.at;
  unmoved : l.counter ≡ 0 → l.at.settled ≡ l.initial.at.settled;
}
