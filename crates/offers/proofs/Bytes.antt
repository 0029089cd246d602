-- The bytes of a number in eight, and a number read from as many of them as it has.
use Rattle.std.specs.Prelude.{◌≡◌, ℕ, zero, suc, ◌+◌, ◌-◌, ◌<◌, ◌≤◌, List, [], ◌∷◌, ◌++◌, length, take, drop, replicate, slice_index_or, refl}
use Rattle.std.specs.Int.{from_be_bytes, w64}
use Rattle.std.proofs.Common.{sym, ap, ◌∙◌, ⊎_elim, zero-add, suc-add, arith}
use borrow.Rule.Slice.PartMut.{put_mid}
use Rattle.std.specs.Int.Digits.{AllBelowBase, number_from_digits}
use Rattle.std.proofs.lemmas.Int.Digits.{number_more}
use Rattle.std.proofs.lemmas.List.{take_all, take-append-drop, take-replicate, length-take, get_or-take, get_or-drop, get_or_past, append-nil}
use Rattle.std.proofs.lemmas.Bool.{cases_lt}
use Rattle.std.proofs.lemmas.Slice.{take-put_mid, drop-put_mid}
use Rattle.offers.specs.Fields.{high_first}

-- the last bytes of a number write it in fewer
pub drop-high_first : (k w n : ℕ) → drop k (high_first (k + w) n) ≡ high_first w n
drop-high_first zero w n = rw zero-add refl
drop-high_first (suc k) w n = rw suc-add (drop-high_first k w n)

-- zeros before a number's digits change nothing
pub zeros_first : (k : ℕ) (ds : List ℕ) → number_from_digits 256 (replicate k 0 ++ ds) ≡ number_from_digits 256 ds
zeros_first zero ds = refl
zeros_first (suc k) ds = zeros_first k ds

-- std's number of eight bytes
pub from_eight : (bs : List ℕ) → length bs ≡ 8 → from_be_bytes w64 bs ≡ number_from_digits 256 bs
from_eight bs h =
    let more = λ (i : ℕ). number_more 256 bs i in
    let whole = ap (number_from_digits 256) (take_all 8 bs (omega arith)) in
    omega (
      arith,
      whole,
      more 0 (omega arith),
      more 1 (omega arith),
      more 2 (omega arith),
      more 3 (omega arith),
      more 4 (omega arith),
      more 5 (omega arith),
      more 6 (omega arith),
      more 7 (omega arith),
    )

-- digits that are each below a base are all below it
pub all_below : (b : ℕ) (ds : List ℕ) → ((i : ℕ) → slice_index_or ds i 0 < b) → AllBelowBase b ds
all_below b [] h = tt
all_below b (d ∷ ds) h = (h 0, all_below b ds (λ i. h (suc i)))

-- so are those of a part of them
pub part_below : (b : ℕ) (ds : List ℕ) (at w : ℕ) → 0 < b → ((i : ℕ) → slice_index_or ds i 0 < b) → AllBelowBase b (take w (drop at ds))
part_below b ds at w positive h = all_below b (take w (drop at ds)) here
  where
    inside : (i : ℕ) → i < w → slice_index_or (take w (drop at ds)) i 0 < b
    inside i low = rw (get_or-take w (drop at ds) i 0 low, get_or-drop at ds i 0) (h (at + i))

    past : (i : ℕ) → w ≤ i → slice_index_or (take w (drop at ds)) i 0 < b
    past i high = rw (get_or_past (take w (drop at ds)) i 0 (simp length-take (omega arith))) positive

    here : (i : ℕ) → slice_index_or (take w (drop at ds)) i 0 < b
    here i = ⊎_elim (inside i) (past i) (cases_lt i w)

-- a number's bytes copied to the end of eight zeros
pub behind_zeros : (n : ℕ) (ys : List ℕ) → n ≤ 8 → length ys ≡ n → put_mid (8 - n) (8 - (8 - n)) (replicate 8 0) ys ≡ replicate (8 - n) 0 ++ ys
behind_zeros n ys h e =
    let bs = put_mid (8 - n) (8 - (8 - n)) (replicate 8 0) ys in
    let front = take-put_mid (8 - n) (8 - (8 - n)) (replicate 8 0) ys 8 (omega arith) (omega arith) in
    let back = drop-put_mid (8 - n) (8 - (8 - n)) (replicate 8 0) ys 8 (omega arith) (omega arith) (omega arith) in
    sym (take-append-drop 8 bs)
    ∙ rw (front, back, take-replicate {X = ℕ} (8 - n) 8 0 (omega arith)) (append-nil (replicate (8 - n) 0 ++ ys))
