-- `number_at`: the bytes stand behind zeros.
use Rattle.std.proofs.Common.{◌≡◌, ℕ, List, ◌+◌, ◌-◌, ◌^◌, ◌<◌, ◌++◌, ap, ◌∙◌, length, replicate, take, drop, arith}
use Rattle.std.proofs.lemmas.List.{length-take, length-drop, length-append, length-replicate}
use Rattle.std.proofs.lemmas.Int.Digits.{number_lt}
use Rattle.std.specs.Int.{from_be_bytes, w64}
use Rattle.std.specs.Int.Digits.{number_from_digits}
use borrow.Rule.Slice.PartMut.{put_mid}
use Rattle.offers.proofs.Bytes.{from_eight, zeros_first, behind_zeros, part_below}
use Rattle.offers.proofs.words.number_at.Goals as goal

pub returns : goal.returns
returns g c =
    let n = g.row.N in
    let part : List ℕ = take n (drop c.args.at c.args.source.now) in
    let bs : List ℕ = put_mid (8 - n) (8 - (8 - n)) (replicate 8 0) c.copy_from_slice.new.self in
    let std : c.from_be_bytes.result ≡ from_be_bytes w64 bs = c.from_be_bytes.ensures in
    let width : c.args.at + n - c.args.at ≡ n = omega arith in
    let copied : c.copy_from_slice.new.self ≡ part =
    c.copy_from_slice.ensures.after ∙ ap (λ m. take m (drop c.args.at c.args.source.now)) width in
    let long : length part ≡ n = simp (length-take, length-drop) (omega (arith, c.requires.room)) in
    let all : bs ≡ replicate (8 - n) 0 ++ part =
    ap (put_mid (8 - n) (8 - (8 - n)) (replicate 8 0)) copied ∙ behind_zeros n part c.requires.few long in
    let eight : length bs ≡ 8 =
    ap length all ∙ simp (length-append, length-replicate) (omega (arith, long, c.requires.few)) in
    let value : c.from_be_bytes.result ≡ number_from_digits 256 part =
    std ∙ from_eight bs eight ∙ ap (number_from_digits 256) all ∙ zeros_first (8 - n) part in
    let below : number_from_digits 256 part < 256 ^ length part =
    number_lt 256 part (part_below 256 c.args.source.now c.args.at n (omega arith) (λ i. omega (arith, c.type_inv.source i))) in
    record { value = value; bound = rw value (rw long at below) }
