-- `close`: it does what the plain round's step does.
use Rattle.std.proofs.Common.{rules}
use Rattle.std.proofs.Common.{Ok, Err}
use Rattle.rounds.specs.Model.{Close, IsClosed, Done, plain_round}
use Rattle.rounds.specs.Views.{of_open, gave}
use Rattle.rounds.proofs.Kept.{serves}
use Rattle.rounds.proofs.open_round.OpenRound.close.Goals as goal

pub returns-in-Ok-clause-served : goal.returns-in-Ok-clause-served
returns-in-Ok-clause-served g c =
    serves (of_open c.args.self) (Close (g.P.PriceRule.meaning c.args.rule.now))
    (gave (plain_round c.args.self.offers (IsClosed c.close.new.self c.start.result)) (Done (Ok tt)))
    (g.met.P.PriceRule.bounded c.args.rule.now) (search rules)

pub returns-in-Err-clause-served : goal.returns-in-Err-clause-served
returns-in-Err-clause-served g c =
    serves (of_open c.args.self) (Close (g.P.PriceRule.meaning c.args.rule.now)) (gave (of_open c.args.self) (Done (Err c.in-Err.refusal)))
    (g.met.P.PriceRule.bounded c.args.rule.now) (search rules)
