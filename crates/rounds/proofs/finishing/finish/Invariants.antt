-- What the loop of `finish` keeps true: so many searches led to where it stands.
use Rattle.std.proofs.Common.{◌≡◌, ℕ, replicate}
use Rattle.search.specs.Search.{work_left}
use Rattle.rounds.specs.Model.{Search, after_from}
use Rattle.rounds.specs.Views.{of_closed}
use Rattle.rounds.proofs.finishing.finish.Given as goal

abbrev pub invariant-turns : goal.invariant-turns
invariant-turns g l =
    let answers = g.B.BoundingRule.answers in
    record {
      led : (n : ℕ) × (of_closed l.closed ≡ after_from (of_closed l.initial.closed) (replicate n (Search (answers l.initial.rule) l.steps)));
      same_rule : answers l.rule ≡ answers l.initial.rule;
    }

abbrev pub decreases-turns : goal.decreases-turns
decreases-turns g l = work_left l.closed.at
