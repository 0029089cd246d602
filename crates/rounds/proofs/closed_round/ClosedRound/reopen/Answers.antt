-- `reopen`: it does what the plain round's step does.
use Rattle.std.proofs.Common.{rules}
use Rattle.rounds.specs.Model.{Reopen, Reopened, IsOpen, plain_round}
use Rattle.rounds.specs.Views.{of_closed, gave}
use Rattle.rounds.proofs.Kept.{serves}
use Rattle.rounds.proofs.closed_round.ClosedRound.reopen.Goals as goal

pub returns : goal.returns
returns c = serves (of_closed c.args.self) Reopen (gave (plain_round c.args.self.offers IsOpen) Reopened) tt (search rules)
