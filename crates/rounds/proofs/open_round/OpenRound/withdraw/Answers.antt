-- `withdraw`: it does what the plain round's step does.
use Rattle.std.proofs.Common.{rules}
use Rattle.rounds.specs.Model.{Withdraw, IsOpen, Done, plain_round}
use Rattle.rounds.specs.Views.{of_open, gave}
use Rattle.rounds.proofs.Kept.{serves}
use Rattle.rounds.proofs.open_round.OpenRound.withdraw.Goals as goal

pub returns : goal.returns
returns c = serves (of_open c.args.self.now) (Withdraw c.args.kind c.args.number) (gave (plain_round c.withdraw.new.self IsOpen) (Done c.withdraw.result)) tt (search rules)
