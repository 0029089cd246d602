-- `put_field`: five bytes, then the record's.
use Rattle.std.proofs.Common.{◌≡◌, [], ◌∷◌, ◌++◌, ◌∙◌, div-one}
use Rattle.offers.specs.Fields.{high_first}
use Rattle.sheets.specs.Fields.{content_size, status_byte}
use Rattle.sheets.proofs.Puts.{put_field}
use Rattle.sheets.proofs.writing.put_field.Goals as goal

pub returns : goal.returns
returns g c =
    let k = g.R.Record.layout in
    let front : c.copy_from_slice.new.self ≡ k.tag ∷ (high_first 2 (content_size k) ++ c.args.number ∷ status_byte c.args.status ∷ []) =
    c.copy_from_slice.ensures.after
    ∙ rw (c.to_be_bytes.ensures, c.TAG.ensures, g.met.R.Record.tagged, c.content_bytes-content.ensures, c.byte.ensures) (simp div-one) in
    let done =
    put_field k g.met.R.Record.laws c.args.number (status_byte c.args.status) c.args.filed.now c.args.at
    c.content_bytes-content.result c.copy_from_slice.new.self c.write.new.out c.args.buffer.now c.requires.room
    c.content_bytes-content.ensures front c.write.ensures in
    record { end = done.ends; front = done.front; back = done.back }
