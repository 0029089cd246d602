-- `put` writes the last of std's eight bytes over a part of the slice.
use Rattle.std.proofs.Common.{◌≡◌, ◌+◌, ◌-◌, ap, ◌∙◌, drop, div-one, arith}
use Rattle.std.proofs.lemmas.List.{take_all}
use Rattle.offers.specs.Fields.{high_first}
use Rattle.offers.specs.Laws.HighFirst.{written, length-high_first}
use Rattle.offers.proofs.Bytes.{drop-high_first}
use Rattle.offers.proofs.words.put.Goals as goal

pub returns : goal.returns
returns g c =
    let n = g.row.N in
    let v = c.args.value in
    let wide : 8 ≡ 8 - n + n = omega (arith, c.requires.few) in
    let eight : c.to_be_bytes.result ≡ high_first 8 v = c.to_be_bytes.ensures ∙ (simp div-one) in
    let last : drop (8 - n) c.to_be_bytes.result ≡ high_first n v =
    ap (drop (8 - n)) (eight ∙ ap (λ w. high_first w v) wide) ∙ drop-high_first (8 - n) n v in
    let part : c.copy_from_slice.new.self ≡ high_first n v =
    c.copy_from_slice.ensures.after ∙ rw last (take_all _ _ (omega (arith, length-high_first n v, c.requires.few))) in
    let w = written c.args.at n v c.args.out.now _ c.requires.room part in
    record { front = w.0; back = w.1 }
