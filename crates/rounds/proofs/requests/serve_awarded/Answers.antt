-- `serve_awarded`: the row that is given back is as the call left it.
use Rattle.std.proofs.Common.{◌≡◌, ℕ, List, ◌++◌, length, take, drop, sym, ap, ◌∙◌, arith}
use Rattle.std.proofs.lemmas.Grind.{common_steps}
use Rattle.rounds.specs.Model.{Call, PlainRound, Answer, ReadAward, ReadFees, Awarded, Charged, step}
use Rattle.rounds.specs.Requests.{call_of}
use Rattle.rounds.specs.Views.{of_awarded, gave}
use Rattle.rounds.proofs.requests.serve_awarded.Goals as goal

-- a row that is read back as the call left it is the model's
as_left : (m : PlainRound) (call : Call) (reading : List ℕ → Call) (answer : List ℕ → Answer) (lent before now row : List ℕ) → now ≡ row → before ≡ lent
    → call ≡ reading lent → gave m (answer row) ≡ step m (reading before) → gave m (answer now) ≡ step m call
as_left m call reading answer lent before now row same was is e =
    ap (λ (xs : List ℕ). gave m (answer xs)) same ∙ e ∙ ap (λ (xs : List ℕ). step m (reading xs)) was ∙ sym (ap (step m) is)

pub returns-in-ReadAward : goal.returns-in-ReadAward
returns-in-ReadAward g c =
    let row = c.award-answer.new.row in
    let same : take c.in-ReadAward.row.len (row ++ drop (length row) c.in-ReadAward.row.items) ≡ row = grind (arith, common_steps) in
    as_left (of_awarded c.args.round) (call_of g.P.PriceRule.meaning g.B.BoundingRule.answers c.args.request) ReadAward (Awarded c.award-answer.result)
    c.in-ReadAward.row.items _ _ row
    same c.deref_mut.ensures.value (ap (call_of g.P.PriceRule.meaning g.B.BoundingRule.answers) c.in-ReadAward.is) c.award-answer.ensures.step

pub returns-in-ReadFees : goal.returns-in-ReadFees
returns-in-ReadFees g c =
    let row = c.fees-answer.new.row in
    let same : take c.in-ReadFees.row.len (row ++ drop (length row) c.in-ReadFees.row.items) ≡ row = grind (arith, common_steps) in
    as_left (of_awarded c.args.round) (call_of g.P.PriceRule.meaning g.B.BoundingRule.answers c.args.request) (ReadFees c.in-ReadFees.rates) (Charged c.fees-answer.result)
    c.in-ReadFees.row.items _ _ row
    same c.deref_mut-in-ReadFees.ensures.value (ap (call_of g.P.PriceRule.meaning g.B.BoundingRule.answers) c.in-ReadFees.is) c.fees-answer.ensures.served.step
