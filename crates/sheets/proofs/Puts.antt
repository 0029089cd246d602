-- Bytes written into a buffer one after the other: single ones, fields of any kind, registers, a whole sheet.
use Rattle.std.proofs.Common.{◌≡◌, ℕ, ◌+◌, ◌-◌, ◌*◌, ◌<◌, ◌≤◌, not, List, [], ◌∷◌, ◌++◌, length, get_or, take, drop, Ok, Result, sym, refl, ap, ◌∙◌, subst, add-zero, arith}
use Rattle.std.specs.List.{filter}
use borrow.Rule.Slice.PartMut.{put_mid}
use Rattle.std.proofs.lemmas.List.{append-nil, append_assoc, length-append, length-take, length-drop, take-append-drop, take_more, drop-drop}
use Rattle.std.proofs.lemmas.Slice.{take-put_mid, drop-put_mid}
use Rattle.std.proofs.lemmas.Bool.{le-leb}
use Rattle.offers.specs.declared.refusals.Refusal.{Refusal}
use Rattle.offers.specs.declared.registers.Entry.{Entry}
use Rattle.offers.specs.declared.registers.Entry.TheVariants.{Vacant, Open, Withdrawn}
use Rattle.offers.specs.declared.kinds.Kind.TheVariants as kind
use Rattle.offers.specs.Fields.{high_first}
use Rattle.offers.specs.Layouts.{Layout, LayoutLaws, bytes_of}
use Rattle.offers.specs.Registers.{is_vacant}
use Rattle.offers.specs.Memory.{Entries}
use Rattle.sheets.specs.Fields.{content_size}
use Rattle.sheets.specs.Writing.{field_bytes, entry_bytes, register_bytes, kind_bytes, sheet_of, write_sheet}

-- what a buffer holds after bytes were written into it from one place to another
pub record Put (at end : ℕ) (bytes before after : List ℕ) : Type 0 where
  pub ends : end ≡ at + length bytes
  -- the front ends in them
  pub front : take end after ≡ take at before ++ bytes
  -- and what lies past them is as it was
  pub back : drop end after ≡ drop end before

-- no bytes are written
pub put_none : (at : ℕ) (before : List ℕ) → Put at at [] before before
put_none at before = record { ends = omega arith; front = sym (append-nil (take at before)); back = refl }

-- what lies past one place lies past an earlier one
drop_on : (middle end : ℕ) (xs : List ℕ) → middle ≤ end → drop end xs ≡ drop (end - middle) (drop middle xs)
drop_on middle end xs h =
    let e : end ≡ middle + (end - middle) = omega arith in
    ap (λ (n : ℕ). drop n xs) e ∙ sym (drop-drop (end - middle) middle xs)

-- bytes are written, and then others after them
pub put_both : {at middle end : ℕ} {bs cs before between after : List ℕ} → Put at middle bs before between → Put middle end cs between after → Put at end (bs ++ cs) before after
put_both {at} {middle} {end} {bs} {cs} {before} {between} {after} p q =
    let onward : middle ≤ end = omega (arith, q.ends) in
    record {
      ends = simp length-append (omega (arith, p.ends, q.ends));
      front = q.front ∙ rw (p.front, append_assoc);
      back = q.back ∙ drop_on middle end between onward ∙ ap (drop (end - middle)) p.back ∙ sym (drop_on middle end before onward);
    }

-- bytes that were written from the start stand before what was past them
pub put_whole : (end : ℕ) (bytes before after : List ℕ) → Put 0 end bytes before after → after ≡ bytes ++ drop (length bytes) before
put_whole end bytes before after p =
    let e : end ≡ length bytes = omega (arith, p.ends) in
    sym (take-append-drop end after) ∙ rw (p.front, p.back, e)

-- a buffer stays as long as it was
put_long : (at end : ℕ) (bytes before after : List ℕ) → Put at end bytes before after → end ≤ length before → length after ≡ length before
put_long at end bytes before after p h =
    ap length (sym (take-append-drop end after))
    ∙ rw (p.front, p.back) (simp (length-append, length-take, length-drop) (omega (arith, p.ends)))

-- a part is written over
put_part : (at end : ℕ) (bytes before : List ℕ) → end ≡ at + length bytes → end ≤ length before → Put at end bytes before (put_mid at (end - at) before bytes)
put_part at end bytes before e h = record {
  ends = e;
  front = take-put_mid at (end - at) before bytes end e (omega arith);
  back = drop-put_mid at (end - at) before bytes end (omega arith) (omega arith) (omega arith);
}

module _ {R : Type 0} (k : Layout R) (law : LayoutLaws k) where
  -- a field's length is that of its header and its content
  pub length-field : (n status : ℕ) (r : R) → length (field_bytes k n status r) ≡ content_size k + 3
  length-field n status r = omega (arith, law.sized r)

  -- as many fields as entries that are not vacant make up a register
  pub length_register : (n : ℕ) (es : List (Entry R)) → length (register_bytes k n es) ≡ length (filter (λ e. not (is_vacant e)) es) * (content_size k + 3)
  length_register n [] = omega arith
  length_register n (Vacant ∷ es) = length_register (n + 1) es
  length_register n (Open r ∷ es) = simp length-append (omega (arith, length-field n 1 r, length_register (n + 1) es))
  length_register n (Withdrawn r ∷ es) = simp length-append (omega (arith, length-field n 2 r, length_register (n + 1) es))

  -- five bytes are written, and the record's follow
  pub put_field : (n status : ℕ) (r : R) (at size : ℕ) (front out before : List ℕ)
      → at + length (field_bytes k n status r) ≤ length before → size ≡ content_size k
      → front ≡ k.tag ∷ (high_first 2 (content_size k) ++ n ∷ status ∷ []) → out ≡ bytes_of k r
      → Put at (at + 3 + size) (field_bytes k n status r) before
      (put_mid (at + 3 + 2) (at + 3 + size - (at + 3 + 2)) (put_mid at (at + 3 + 2 - at) before front) out)
  put_field n status r at size front out before room s f o =
      let wide = law.sized r in
      let five = ap length f in
      let same = ap length o in
      let p1 = put_part at (at + 3 + 2) front before (omega arith) (omega arith) in
      let b1 = put_mid at (at + 3 + 2 - at) before front in
      let long = put_long at (at + 3 + 2) front before b1 p1 (omega arith) in
      let p2 = put_part (at + 3 + 2) (at + 3 + size) out b1 (omega arith) (omega arith) in
      let bytes : front ++ out ≡ field_bytes k n status r = rw (f, o) refl in
      subst (λ (bs : List ℕ). Put at (at + 3 + size) bs before (put_mid (at + 3 + 2) (at + 3 + size - (at + 3 + 2)) b1 out)) bytes (put_both p1 p2)

module _ {R : Type 0} (k : Layout R) where
  -- the fields of two rows of entries, the second numbered on from the first
  register_append : (n : ℕ) (es fs : List (Entry R)) → register_bytes k n (es ++ fs) ≡ register_bytes k n es ++ register_bytes k (n + length es) fs
  register_append n [] fs = rw add-zero
  register_append n (e ∷ es) fs =
      let on : n + 1 + length es ≡ n + length (e ∷ es) = omega arith in
      rw (register_append (n + 1) es fs, on, append_assoc)

  module _ (es : List (Entry R)) (i : ℕ) (e : Entry R) (h : i < length es) (is : e ≡ get_or es i e) where
    -- one entry more is one field more
    pub register_more : register_bytes k 1 (take (i + 1) es) ≡ register_bytes k 1 (take i es) ++ entry_bytes k (i + 1) e
    register_more =
        let number : 1 + length (take i es) ≡ i + 1 = simp length-take (omega arith) in
        rw (take_more es i e, ← is, register_append 1 (take i es) (e ∷ []), number, append-nil)

    -- its field is written after those before it
    pub put_entry : {at next end n : ℕ} {before between after : List ℕ} → n ≡ i + 1 → Put at next (register_bytes k 1 (take i es)) before between
        → Put next end (entry_bytes k n e) between after → Put at end (register_bytes k 1 (take (i + 1) es)) before after
    put_entry number p q = rw register_more (put_both p (rw number at q))

    -- and has room where the whole register has
    pub register_room : length (register_bytes k 1 (take i es)) + length (entry_bytes k (i + 1) e) ≤ length (register_bytes k 1 es)
    register_room =
        let front = ap length register_more in
        let whole : register_bytes k 1 es ≡ register_bytes k 1 (take (i + 1) es) ++ register_bytes k (1 + length (take (i + 1) es)) (drop (i + 1) es)
        = ap (register_bytes k 1) (sym (take-append-drop (i + 1) es)) ∙ register_append 1 (take (i + 1) es) (drop (i + 1) es) in
        omega (arith, simp length-append at front, simp length-append at (ap length whole))

-- the length of five rows of bytes
length-five : (a b c d e : List ℕ) → length (a ++ (b ++ (c ++ (d ++ e)))) ≡ length a + length b + length c + length d + length e
length-five a b c d e = simp length-append (omega arith)

-- a sheet is as long as its registers
pub length_sheet : {all held : Entries} → all ≡ held → length (sheet_of held) ≡ length (kind_bytes all kind.Package) + length (kind_bytes all kind.Band) + length (kind_bytes all kind.Pair) + length (kind_bytes all kind.Exclusion) + length (kind_bytes all kind.Limit)
length_sheet {all} has =
    rw (← has) (length-five (kind_bytes all kind.Package) (kind_bytes all kind.Band) (kind_bytes all kind.Pair) (kind_bytes all kind.Exclusion) (kind_bytes all kind.Limit))

-- what writing a sheet answers and leaves
pub record Writes (all : Entries) (before : List ℕ) (answer : Result ℕ Refusal) (after : List ℕ) : Type 0 where
  pub answers : answer ≡ (write_sheet all before).answer
  pub leaves : after ≡ (write_sheet all before).buffer

-- a sheet that was written from the start
pub writes : {all held : Entries} → all ≡ held → (end n : ℕ) (before after : List ℕ) → n ≡ length (sheet_of held) → n ≤ length before → Put 0 end (sheet_of all) before after
    → Writes held before (Ok n) after
writes {held} has end n before after e h p =
    let fits = le-leb (length (sheet_of held)) (length before) (omega arith) in
    record { answers = rw (fits, e); leaves = rw fits (put_whole end (sheet_of held) before after (rw (← has) p)) }
