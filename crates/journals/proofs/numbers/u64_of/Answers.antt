use Rattle.std.proofs.Common.{sym, ◌∙◌, arith}
use Rattle.std.proofs.lemmas.List.{at_drop_all}
use Rattle.journals.specs.Numbers.{value_on}
use Rattle.journals.proofs.Digits.{sized_fits, sized_large, value_on-more, no_room}
use Rattle.journals.proofs.numbers.u64_of.Goals as goal

pub returns-in_default : goal.returns-in_default
returns-in_default c =
    let word = c.args.word.now in
    let more = value_on-more c.loop-digit.number word c.loop-digit.digit-index c.loop-digit-test.true c.loop-digit.invariant.rest in
    let large = no_room _ _ _ (sym c.followed.ensures ∙ c.in_default.is) in
    sized_large 8 word (sym c.is_empty.ensures ∙ c.if-is_empty.false) (sym c.all_digits.ensures ∙ c.if-not-all_digits.false) (omega arith)

pub returns : goal.returns
returns c =
    let word = c.args.word.now in
    let all = at_drop_all (value_on c.loop-digit.number) word c.loop-digit.digit-index c.loop-digit-test.false in
    sized_fits 8 word c.loop-digit.number (sym c.is_empty.ensures ∙ c.if-is_empty.false) (sym c.all_digits.ensures ∙ c.if-not-all_digits.false) (sym all ∙ c.loop-digit.invariant.rest) (omega arith)
