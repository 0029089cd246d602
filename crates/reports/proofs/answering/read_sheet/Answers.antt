-- `read_sheet`: the bytes that were put one after the other are the first that were left.
use Rattle.std.proofs.Common.{◌≡◌, ℕ, ◌+◌, ◌<◌, ◌≤◌, List, [], ◌++◌, Option, Some, None, IfSome, length, take, rules, arith, refl, sym, ap, ap₂, ◌∙◌, subst, length-take, length-drop, length-take-le, take-add, take_all, take_at, drop_at}
use Rattle.std.proofs.KnownBytes.{Consumes-trans, Consumes-kept, Consumes-whole}
use Rattle.std.proofs.lemmas.List.{take-append-le}
use Rattle.std.specs.Io.KnownBytes.{Consumes, IsAtEnd}
use borrow.Rule.Slice.PartMut.{put_mid, post_of, same_len_mid, take_put}
use Rattle.reports.proofs.answering.read_sheet.Goals.{in-Ok, in-Err}
use Rattle.reports.proofs.answering.read_sheet.Goals as goal

-- where n bytes are put behind the first i, the first i + n are those and these
joined : (i k n : ℕ) (xs ys : List ℕ) → i ≤ length xs → n ≤ length ys → take (i + n) (put_mid i k xs ys) ≡ take i xs ++ take n ys
joined i k n xs ys within fits =
    take-add i n (put_mid i k xs ys)
    ∙ ap₂ (λ (l r : List ℕ). l ++ r) (take_put i k xs ys within)
    (ap (take n) (drop_at (take i xs) (ys ++ post_of i k xs) i (length-take-le i xs within)) ∙ take-append-le n ys (post_of i k xs) fits)

-- a full sheet has the first n of the bytes that were left
full : (a b : Option (List ℕ)) (n : ℕ) (bs : List ℕ) → length bs ≡ n → Consumes a b bs → IfSome a (λ all. bs ≡ take n all)
full None b n bs long before = tt
full (Some all) None n bs long before = absurd before
full (Some all) (Some left) n bs long before = sym (take_at bs left n long) ∙ ap (take n) (sym before)

-- where a read has none to give, none was left before it
none_left : (a b : Option (List ℕ)) → Consumes a b [] → IsAtEnd b → IsAtEnd a
none_left None b more end = tt
none_left (Some left) None more end = absurd more
none_left (Some left) (Some rest) more end = more ∙ end

-- so a sheet that is not full has all of them
ended : (a b c : Option (List ℕ)) (i n : ℕ) (xs new : List ℕ) → take i new ≡ take i xs → length (take i xs) ≤ n
    → Consumes a b (take i xs) → Consumes b c [] → IsAtEnd c → IfSome a (λ all. take i new ≡ take n all)
ended a b c i n xs new same few before more end =
    Consumes-whole a b (take i xs) (λ all. take i new ≡ take n all) before (none_left b c more end) (same ∙ sym (take_all n (take i xs) few))

pub returns-then-count-eq-MAX_SHEET_BYTES-clause-bytes : goal.returns-then-count-eq-MAX_SHEET_BYTES-clause-bytes
returns-then-count-eq-MAX_SHEET_BYTES-clause-bytes g c =
    let sheet = take c.loop.count c.loop.sheet in
    let long : length sheet ≡ 4096 = omega (arith, length-take c.loop.count c.loop.sheet) in
    full _ _ 4096 sheet long c.loop.invariant.bytes

pub returns-in-Ok-eq0-clause-bytes : goal.returns-in-Ok-eq0-clause-bytes
returns-in-Ok-eq0-clause-bytes g c =
    let i = c.loop.count in
    let sheet = c.loop.sheet in
    let within : i ≤ length sheet = omega arith in
    let read = rw (c.in-Ok-eq0.is, c.in-Ok-eq0.field-0-test) at c.read.ensures.bytes in
    let room : 0 < length c.read.new.buf = omega (arith, c.read.auto.buf, length-take {A = ℕ}, length-drop {A = ℕ}) in
    ended _ _ _ i 4096 sheet _ (search (rules, take_put)) (omega (arith, length-take i sheet)) c.loop.invariant.bytes read.0 (read.1 refl room)

pub loop-preserved : goal.loop-preserved
loop-preserved g c =
    let i = c.loop.count in
    let sheet = c.loop.sheet in
    let buf = c.read.new.buf in
    let within : i ≤ length sheet = omega arith in
    elim c.match-read.branch [
      | in-Ok w ↦
          let n = w.in-Ok.more in
          let fits : n ≤ length buf = w.in-Ok.ensures.bound.0 in
          rw w.count-is record {
            room = search (rules, same_len_mid);
            few = omega (arith, c.read.auto.buf, length-take {A = ℕ}, length-drop {A = ℕ});
            bytes = subst (Consumes _ _) (sym (joined i _ n sheet buf within fits)) (Consumes-trans _ _ _ _ _ c.loop.invariant.bytes w.in-Ok.ensures.bytes.0);
          }
      | in-Err w ↦ rw w.count-is record {
        room = search (rules, same_len_mid);
        few = omega arith;
        bytes = subst (Consumes _ _) (sym (take_put i _ sheet buf within)) (Consumes-kept _ _ _ _ c.loop.invariant.bytes w.in-Err.ensures.bytes);
      }
    ]
