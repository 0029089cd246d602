-- `split_field`: past the tests, the header is in order and enough bytes follow it.
use Rattle.std.proofs.Common.{◌≡◌, ◌+◌, ◌*◌, ◌≤◌, length, get_or, drop, sym, refl, ◌∙◌, arith, rules}
use Rattle.std.proofs.lemmas.List.{take_rest}
use Rattle.offers.specs.Marks.{kind_of_tag}
use Rattle.offers.proofs.Decoding.{decoded_some}
use Rattle.sheets.proofs.Splits.{split_in_order}
use Rattle.sheets.proofs.fields.split_field.Goals as goal

pub returns-clause-answer : goal.returns-clause-answer
returns-clause-answer c =
    let sheet = c.args.sheet.now in
    let size = get_or sheet 1 0 * 256 + get_or sheet 2 0 in
    let body = take_rest sheet 3 in
    let same : c.from_be_bytes-length.result ≡ size = omega (arith, c.from_be_bytes-length.ensures) in
    let enough : size ≤ length (drop 3 sheet) = rw (body, same) at c.if-body-length.false in
    let known = decoded_some kind_of_tag (get_or sheet 0 0) c.in-Ok.kind (sym c.try_from.ensures ∙ c.in-Ok.is) in
    let whole = sym same ∙ c.if-length-content_length.false ∙ c.content_length.ensures in
    let split = split_in_order sheet c.args.byte c.in-Ok.kind size (omega arith) known refl whole enough in
    cc

pub returns-then-length-content_length : goal.returns-then-length-content_length
returns-then-length-content_length c =
    let known = decoded_some kind_of_tag (get_or c.args.sheet.now 0 0) c.in-Ok.kind (sym c.try_from.ensures ∙ c.in-Ok.is) in
    search rules

pub returns-then-body-length : goal.returns-then-body-length
returns-then-body-length c =
    let known = decoded_some kind_of_tag (get_or c.args.sheet.now 0 0) c.in-Ok.kind (sym c.try_from.ensures ∙ c.in-Ok.is) in
    search rules
