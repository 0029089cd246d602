-- `catch_up`: it does what the plain round's step does.
use Rattle.std.proofs.Common.{rules}
use Rattle.rounds.specs.Model.{CatchUp, IsOpen, Done, plain_round}
use Rattle.rounds.specs.Views.{of_open, gave}
use Rattle.rounds.proofs.Kept.{serves}
use Rattle.rounds.proofs.open_round.OpenRound.catch_up.Goals as goal

pub returns : goal.returns
returns c = serves (of_open c.args.self.now) (CatchUp c.args.sheet.now) (gave (plain_round c.catch_up.new.offers IsOpen) (Done c.catch_up.result)) tt (search rules)
