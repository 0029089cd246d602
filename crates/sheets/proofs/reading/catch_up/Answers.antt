-- `catch_up`: each turn takes one field off what is left.
use Rattle.std.proofs.Common.{sym, ◌∙◌, arith, rules}
use Rattle.sheets.specs.Views.{plain_field}
use Rattle.sheets.proofs.CatchUps.{caught_since}
use Rattle.sheets.proofs.Splits.{split_off}
use Rattle.sheets.proofs.Turns.{split-shorter, catch_next}
use Rattle.sheets.proofs.reading.catch_up.Goals as goal

pub enter_field-requires : goal.enter_field-requires
enter_field-requires c =
    (split_off c.loop-rest.rest.now c.loop-rest.cursor.next_byte (plain_field c.in_ok-field.field) c.in_ok-field.ensures.answer).whole

pub loop-rest-preserved : goal.loop-rest-preserved
loop-rest-preserved c =
    let p = plain_field c.in_ok-field.field in
    let fewer = split-shorter c.loop-rest.rest.now c.loop-rest.cursor.next_byte p c.in_ok-field.ensures.answer in
    let entered = sym c.enter_field.ensures.answer ∙ c.in_ok-number.was in
    let next = catch_next c.loop-rest.copy c.loop-rest.cursor c.loop-rest.rest.now p c.in_ok-number.number c.in_ok-field.ensures.answer entered in
    (rw (c.enter_field.ensures.after, c.tag.ensures) (sym next ∙ c.loop-rest.invariant.0), omega arith)

pub returns-in_err-field : goal.returns-in_err-field
returns-in_err-field c = record { answer = search rules; after = search rules; caught_up = caught_since _ _ _ _ (search rules) (search rules) }

pub returns-in_err-number : goal.returns-in_err-number
returns-in_err-number c = record { answer = search rules; after = search rules; caught_up = caught_since _ _ _ _ (search rules) (search rules) }

pub returns : goal.returns
returns c = record { answer = search rules; after = search rules; caught_up = caught_since _ _ _ _ (search rules) (search rules) }
