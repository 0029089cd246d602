-- Numbers as bytes, the high ones first: how they are written into a slice and read from it.
use Rattle.std.specs.Prelude.{◌≡◌, ℕ, zero, suc, ◌+◌, ◌-◌, ◌*◌, ◌/◌, ◌%◌, ◌^◌, ◌<◌, ◌≤◌, List, [], ◌∷◌, ◌++◌, length, take, drop, slice_index, refl}
use Rattle.std.proofs.Common.{sym, ap, ◌∙◌, zero-add, mul_assoc, add-mul, arith, take-add}
use Rattle.std.proofs.Math.Nat.{pow-succ', mod-one, pow-zero, one-le-pow}
use borrow.Rule.Slice.PartMut.{put_mid}
use Rattle.std.proofs.Math.Arith.{mod-mul}
use Rattle.std.specs.Int.Digits.{number_from_digits, number_from_digits_after}
use Rattle.std.proofs.lemmas.Int.Digits.{number_more, number_after_append}
use Rattle.std.proofs.lemmas.List.{take_all, length-take, length-drop, drop-drop, get_or-drop}
use Rattle.std.proofs.lemmas.Slice.{take-put_mid, drop-put_mid}
use Rattle.offers.specs.Fields.{high_first}

-- a number has as many bytes as are asked for
pub length-high_first : (w n : ℕ) → length (high_first w n) ≡ w
length-high_first zero n = refl
length-high_first (suc w) n = ap suc (length-high_first w n)

-- a number that digits follow moves up by a place for each of them
pub numberAfter_is : (b n : ℕ) (ds : List ℕ) → number_from_digits_after b n ds ≡ n * b ^ length ds + number_from_digits b ds
numberAfter_is b n [] = omega (arith, ap (λ p. n * p) (pow-zero b))
numberAfter_is b n (d ∷ ds) =
    omega (
      arith,
      numberAfter_is b (n * b + d) ds,
      numberAfter_is b (0 * b + d) ds,
      add-mul (n * b) d (b ^ length ds),
      mul_assoc n b (b ^ length ds),
      ap (λ p. n * p) (pow-succ' b (length ds)),
    )

-- the bytes of a number write it again, but for what they have no room for
pub number-high_first : (w n : ℕ) → number_from_digits 256 (high_first w n) ≡ n % 256 ^ w
number-high_first zero n = omega (arith, mod-one n)
number-high_first (suc w) n =
    let low = mod-mul n {m = 256} {c = 256 ^ w} (omega arith) (one-le-pow w 256 (omega arith)) in
    numberAfter_is 256 (0 * 256 + n / 256 ^ w % 256) (high_first w n)
    ∙ rw (length-high_first w n, number-high_first w n, zero-add, ← low, pow-succ')

-- the number in one byte more
pub number_wider : (xs : List ℕ) (at w : ℕ) → at + w < length xs
    → number_from_digits 256 (take (w + 1) (drop at xs)) ≡ number_from_digits 256 (take w (drop at xs)) * 256 + slice_index xs (at + w)
number_wider xs at w h =
    number_more 256 (drop at xs) w (simp length-drop (omega arith))
    ∙ ap (λ d. number_from_digits 256 (take w (drop at xs)) * 256 + d) (get_or-drop at xs w 0)

-- the number in a row of bytes that another follows
pub number_two : (xs : List ℕ) (at v w : ℕ) → at + v + w ≤ length xs
    → number_from_digits 256 (take (v + w) (drop at xs))
    ≡ number_from_digits 256 (take v (drop at xs)) * 256 ^ w + number_from_digits 256 (take w (drop (at + v) xs))
number_two xs at v w h =
    let second = take w (drop (at + v) xs) in
    let wide : length second ≡ w = simp (length-take, length-drop) (omega arith) in
    rw (
      take-add v w (drop at xs),
      number_after_append,
      drop-drop,
      numberAfter_is 256 (number_from_digits 256 (take v (drop at xs))) second,
      wide,
    )

-- after a number's bytes are written over a part, the front ends in them and what lies past them is as it was
pub written : (at w n : ℕ) (xs ys : List ℕ) → at + w ≤ length xs → ys ≡ high_first w n
    → (take (at + w) (put_mid at (at + w - at) xs ys) ≡ take at xs ++ high_first w n)
    × (drop (at + w) (put_mid at (at + w - at) xs ys) ≡ drop (at + w) xs)
written at w n xs ys h e =
    let wide : length ys ≡ w = ap length e ∙ length-high_first w n in (
      take-put_mid at _ xs ys (at + w) (omega arith) (omega arith) ∙ ap (λ b. take at xs ++ b) e,
      drop-put_mid at _ xs ys (at + w) (omega arith) (omega arith) (omega arith),
    )

-- a slice is written whole where its front is as long as it is
pub filled : (n : ℕ) (xs bs : List ℕ) → length xs ≡ n → take n xs ≡ bs → xs ≡ bs
filled n xs bs h e = sym (take_all n xs (omega arith)) ∙ e
