-- `search`: it does what the plain round's step does.
use Rattle.std.proofs.Common.{rules}
use Rattle.std.proofs.Common.{Ok, Err}
use Rattle.rounds.specs.Model.{Search, Found}
use Rattle.rounds.specs.Views.{of_closed, of_searched, gave}
use Rattle.std.proofs.Common.{◌≡◌, ℕ, ◌<◌, ◌≤◌, sym, ap, ◌∙◌, subst, ⊎_elim, arith}
use Rattle.std.proofs.lemmas.Bool.{cases_lt, eq-eqb}
use Rattle.clearing.specs.Lawful.{View, choices}
use Rattle.bounds.specs.Blocks.{Answers}
use Rattle.search.specs.Search.{Standing, Placed, after_steps}
use Rattle.search.proofs.Placings.{finished-stays}
use Rattle.rounds.specs.declared.closed_round.Searched.{Searched}
use Rattle.rounds.specs.Views.{Falls}
use Rattle.rounds.proofs.closed_round.ClosedRound.search.Goals.{then-at-choices, else-at-choices}
use Rattle.rounds.proofs.Kept.{serves}
use Rattle.rounds.proofs.closed_round.ClosedRound.search.Goals as goal

pub returns-then-not-contains-clause-served : goal.returns-then-not-contains-clause-served
returns-then-not-contains-clause-served g c =
    serves (of_closed c.args.self) (Search (g.B.BoundingRule.answers c.args.rule.now) c.args.steps) (gave (of_closed c.args.self) (Found (Err c.code_only.result)))
    (g.met.B.BoundingRule.sound c.args.rule.now) (search rules)

pub returns-clause-served : goal.returns-clause-served
returns-clause-served g c =
    serves (of_closed c.args.self) (Search (g.B.BoundingRule.answers c.args.rule.now) c.args.steps) (gave (of_searched c.if-at-choices.next) (Found (Ok c.found-found.result)))
    (g.met.B.BoundingRule.sound c.args.rule.now) (search rules)

-- a search that is not finished after some steps was not before them
was_open : (rule : Answers) (v : View) (count : ℕ) (from to : Standing) → Placed v from → to ≡ after_steps rule v count from → (to.settled ≡ choices v → ⊥) → from.settled < choices v
was_open rule v count from to placed is left =
    ⊎_elim (λ (h : from.settled < choices v). h)
    (λ (h : choices v ≤ from.settled).
    let all : from.settled ≡ choices v = omega (arith, placed.most) in
    absurd (left (ap (λ (a : Standing). a.settled) (is ∙ finished-stays rule v count from (eq-eqb from.settled (choices v) all)) ∙ all)))
    (cases_lt from.settled (choices v))

pub returns-clause-falls : goal.returns-clause-falls
returns-clause-falls g c some most = elim c.if-at-choices.branch [
  | then-at-choices w ↦ subst (λ (s : Searched). Falls s c.args.self.at) (sym w.next-is) tt
  | else-at-choices w ↦
      let v = c.args.self.docket in
      let below = was_open (g.B.BoundingRule.answers c.args.rule.now) v c.args.steps c.args.self.at c.run-at.result c.args.self.placed (c.run-at.ensures.runs c.args.self.placed).steps
      (λ e. w.if-at-choices.false (ap (λ (a : Standing). a.settled) c.at.view_is ∙ e ∙ sym c.choices.ensures.count)) in
      subst (λ (s : Searched). Falls s c.args.self.at) (sym w.next-is) (c.run-at.ensures.falls some (subst (λ (n : ℕ). c.args.self.at.settled < n) (sym c.choices.ensures.count ∙ c.choices.ensures.value) below))
]
