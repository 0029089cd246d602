-- `write_sheet`: the registers, one after the other.
use Rattle.std.proofs.Common.{rules}
use Rattle.sheets.proofs.Faithfulness.{faithful}
use Rattle.sheets.proofs.Puts.{Put, put_both, writes}
use Rattle.sheets.proofs.writing.write_sheet.Goals as goal

pub returns-then-buffer-length : goal.returns-then-buffer-length
returns-then-buffer-length c = record {
  answer = search rules;
  after = search rules;
  faithful = faithful c.args.offers.now c.sheet_length-length.ensures.sound;
  carries = search rules;
}

pub returns : goal.returns
returns c =
    let packages : Put 0 c.put_register-at.result _ c.args.buffer.now c.put_register-at.new.buffer =
    let put = c.put_register-at.ensures in record { ends = put.end; front = put.front; back = put.back } in
    let bands : Put c.put_register-at.result c.put_register-at-2.result _ c.put_register-at.new.buffer c.put_register-at-2.new.buffer =
    let put = c.put_register-at-2.ensures in record { ends = put.end; front = put.front; back = put.back } in
    let pairs : Put c.put_register-at-2.result c.put_register-at-3.result _ c.put_register-at-2.new.buffer c.put_register-at-3.new.buffer =
    let put = c.put_register-at-3.ensures in record { ends = put.end; front = put.front; back = put.back } in
    let exclusions : Put c.put_register-at-3.result c.put_register-at-4.result _ c.put_register-at-3.new.buffer c.put_register-at-4.new.buffer =
    let put = c.put_register-at-4.ensures in record { ends = put.end; front = put.front; back = put.back } in
    let limits : Put c.put_register-at-4.result c.put_register.result _ c.put_register-at-4.new.buffer c.put_register.new.buffer =
    let put = c.put_register.ensures in record { ends = put.end; front = put.front; back = put.back } in
    let done =
    writes c.offers.view_is c.put_register.result c.sheet_length-length.result c.args.buffer.now c.put_register.new.buffer
    c.sheet_length-length.ensures.value c.if-buffer-length.false
    (put_both packages (put_both bands (put_both pairs (put_both exclusions limits)))) in
    record { answer = done.answers; after = done.leaves; faithful = faithful c.args.offers.now c.sheet_length-length.ensures.sound; carries = tt }
