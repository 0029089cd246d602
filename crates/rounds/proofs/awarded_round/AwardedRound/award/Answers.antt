-- `award`: it does what the plain round's step does.
use Rattle.std.proofs.Common.{rules, arith}
use Rattle.std.proofs.lemmas.Grind.{common_steps}
use Rattle.std.proofs.Common.{Ok, Err, ◌++◌, drop, length, sym, ap, ◌∙◌}
use Rattle.std.proofs.lemmas.List.{length-take-le}
use Rattle.rounds.specs.Model.{ReadAward, Awarded}
use Rattle.rounds.specs.Views.{of_awarded, gave}
use Rattle.rounds.proofs.Kept.{serves}
use Rattle.rounds.proofs.awarded_round.AwardedRound.award.Goals as goal

pub copy_from_slice-requires : goal.copy_from_slice-requires
copy_from_slice-requires c = length-take-le 64 c.args.row.now c.if-row-lt-BANDS.false ∙ sym (ap length c.sales_row-sold.ensures)

pub returns-then-row-lt-BANDS : goal.returns-then-row-lt-BANDS
returns-then-row-lt-BANDS c =
    serves (of_awarded c.args.self.now) (ReadAward c.args.row.now) (gave (of_awarded c.args.self.now) (Awarded (Err c.code_only.result) c.args.row.now)) tt (search rules)

pub returns : goal.returns
returns c =
    serves (of_awarded c.args.self.now) (ReadAward c.args.row.now)
    (gave (of_awarded c.args.self.now) (Awarded (Ok c.leader.result) (c.copy_from_slice.new.self ++ drop 64 c.args.row.now))) tt (grind (arith, common_steps))
