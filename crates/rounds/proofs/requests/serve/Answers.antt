-- `serve`: it does what the plain round's step does.
use Rattle.std.proofs.Common.{rules}
use Rattle.rounds.specs.Requests.{of_round, call_of, answer_of}
use Rattle.rounds.specs.Views.{gave}
use Rattle.rounds.proofs.Kept.{serves, lawful_request}
use Rattle.rounds.proofs.requests.serve.Goals as goal

pub returns-in-Open : goal.returns-in-Open
returns-in-Open g c =
    serves (of_round c.args.round) (call_of g.P.PriceRule.meaning g.B.BoundingRule.answers c.args.request) (gave (of_round c.serve_open.result.0) (answer_of c.serve_open.result.1))
    (lawful_request _ _ g.met.P.PriceRule.bounded g.met.B.BoundingRule.sound c.args.request) (search rules)

pub returns-in-Closed : goal.returns-in-Closed
returns-in-Closed g c =
    serves (of_round c.args.round) (call_of g.P.PriceRule.meaning g.B.BoundingRule.answers c.args.request) (gave (of_round c.serve_closed.result.0) (answer_of c.serve_closed.result.1))
    (lawful_request _ _ g.met.P.PriceRule.bounded g.met.B.BoundingRule.sound c.args.request) (search rules)

pub returns-in-Awarded : goal.returns-in-Awarded
returns-in-Awarded g c =
    serves (of_round c.args.round) (call_of g.P.PriceRule.meaning g.B.BoundingRule.answers c.args.request) (gave (of_round c.serve_awarded.result.0) (answer_of c.serve_awarded.result.1))
    (lawful_request _ _ g.met.P.PriceRule.bounded g.met.B.BoundingRule.sound c.args.request) (search rules)
