-- `answer_sheet`: what is written answers what was read.
use Rattle.std.proofs.Common.{◌≤◌, true, false, length, take, arith, subst, length-take}
use Rattle.rounds.specs.Model.{PlainRound}
use Rattle.reports.specs.Cleared.{Cleared, NotCleared}
use Rattle.reports.specs.Searching.{searching}
use Rattle.reports.specs.Text.{report_text, refused_text}
use Rattle.reports.proofs.OneAnswer.{answered}
use Rattle.reports.proofs.Tellings.{awarded_answers, refused_answers}
use Rattle.reports.proofs.answering.answer_sheet.Goals as goal

pub returns-in_ok-write_text-in-Ok : goal.returns-in_ok-write_text-in-Ok
returns-in_ok-write_text-in-Ok g c =
    let count = c.in_ok-count.count in
    let sheet = take count c.read_sheet.new.sheet in
    let round = c.in-Ok.awarded in
    let report = c.in_ok-report-in-Ok.report in
    let means = searching c.args.rules in
    let few : length sheet ≤ 4096 = omega (arith, length-take count c.read_sheet.new.sheet, c.in_ok-count.ensures.few) in
    let cleared = subst (λ (m : PlainRound). Cleared means m sheet round) c.in_ok-round.ensures c.in-Ok.ensures in
    answered _ _ _ false sheet (report_text report) few c.in_ok-count.ensures.bytes
    (awarded_answers means sheet round report cleared c.in_ok-report-in-Ok.ensures) c.in_ok-write_text-in-Ok.ensures

pub returns-in_ok-write_text-in-Err : goal.returns-in_ok-write_text-in-Err
returns-in_ok-write_text-in-Err g c =
    let count = c.in_ok-count.count in
    let sheet = take count c.read_sheet.new.sheet in
    let why = c.in-Err.refusal in
    let few : length sheet ≤ 4096 = omega (arith, length-take count c.read_sheet.new.sheet, c.in_ok-count.ensures.few) in
    let refused = subst (λ (m : PlainRound). NotCleared m sheet why) c.in_ok-round.ensures c.in-Err.ensures in
    answered _ _ _ true sheet (refused_text (record { 0 = why })) few c.in_ok-count.ensures.bytes
    (refused_answers sheet why refused) c.in_ok-write_text-in-Err.ensures
