-- `file`: it does what the plain round's step does.
use Rattle.std.proofs.Common.{rules}
use Rattle.rounds.specs.Model.{File, IsOpen, Done, plain_round}
use Rattle.rounds.specs.Views.{of_open, gave}
use Rattle.rounds.proofs.Kept.{serves}
use Rattle.rounds.proofs.open_round.OpenRound.file.Goals as goal

pub returns : goal.returns
returns c = serves (of_open c.args.self.now) (File c.args.number c.args.offer) (gave (plain_round c.file.new.self IsOpen) (Done c.file.result)) tt (search rules)
