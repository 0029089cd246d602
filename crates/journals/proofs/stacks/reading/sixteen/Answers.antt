use Rattle.std.proofs.Common.{w64, SFits, sym, ◌∙◌, rules}
use Rattle.std.proofs.lemmas.Result.{err_from_is_err_and}
use Rattle.std.proofs.lemmas.Int.{to_z-of_z}
use Rattle.journals.specs.Readers.{unread}
use Rattle.journals.proofs.ZoneTexts.{zones_more, zones_wrong, zones_all}
use Rattle.journals.proofs.stacks.reading.sixteen.Goals as goal

pub returns-in_err-numbers : goal.returns-in_err-numbers
returns-in_err-numbers c =
    let wrong = zones_wrong 16 c.loop-place.numbers c.loop-place.place (unread c.loop-place.words) c.in_err-numbers.field-0.0 c.loop-place-test.true c.in_err-numbers.ensures in
    let p = err_from_is_err_and c.from_residual.result c.from_residual.ensures.1 in
    rw (p.1, p.2) (sym c.loop-place.invariant.told ∙ wrong)

pub loop-place-preserved : goal.loop-place-preserved
loop-place-preserved c =
    let more = zones_more 16 c.loop-place.numbers c.loop-place.place (unread c.loop-place.words) c.in_ok-numbers.field-0 (unread c.next_i64.new.self) c.loop-place.invariant.long c.loop-place-test.true c.in_ok-numbers.ensures in
    let fits : SFits w64 c.in_ok-numbers.field-0 = search rules in
    record {
      long = search rules;
      told = simp to_z-of_z (more ∙ c.loop-place.invariant.told);
    }

pub returns : goal.returns
returns c =
    let all = zones_all 16 c.loop-place.numbers c.loop-place.place (unread c.loop-place.words) c.loop-place.invariant.long c.loop-place-test.false in
    sym c.loop-place.invariant.told ∙ all
