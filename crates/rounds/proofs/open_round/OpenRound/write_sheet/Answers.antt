-- `write_sheet`: it does what the plain round's step does.
use Rattle.std.proofs.Common.{rules}
use Rattle.rounds.specs.Model.{WriteSheet, Written}
use Rattle.rounds.specs.Views.{of_open, gave}
use Rattle.rounds.proofs.Kept.{serves}
use Rattle.rounds.proofs.open_round.OpenRound.write_sheet.Goals as goal

pub returns : goal.returns
returns c =
    serves (of_open c.args.self.now) (WriteSheet c.args.buffer.now)
    (gave (of_open c.args.self.now) (Written c.write_sheet.result c.write_sheet.new.buffer)) tt (search rules)
