-- What is written of bytes is read as those bytes.
use Rattle.std.proofs.Common.{◌≡◌, ℕ, suc, ◌/◌, ◌%◌, ◌<◌, true, List, [], ◌∷◌, get_or, Ok, refl, arith}
use Rattle.std.specs.List.{list_all}
use Rattle.std.proofs.lemmas.Bool.{agree_below_at, and_from}
use Rattle.hex.specs.Hex.{IsBytes, encode_with, encode_lower, lower_digits}
use Rattle.hex.proofs.HexLemmas.{decode_of-encode_lower}
use Rattle.journals.specs.Bytes.{bytes_at}
use Rattle.journals.specs.Texts.{bytes_words}
use Rattle.journals.specs.Words.{is_word}
use Rattle.journals.proofs.Decimals.{above_blank}
use Rattle.journals.proofs.Plain.{Words}

pub bytes_at-words : (bytes : List ℕ) → IsBytes bytes → bytes_at (bytes_words bytes) ≡ Ok (bytes, [])
bytes_at-words [] fit = refl
bytes_at-words (b ∷ bs) fit = rw (decode_of-encode_lower (b ∷ bs) fit)

-- its words
digit-above : (d : ℕ) → d < 16 → above_blank (get_or lower_digits d 0) ≡ true
digit-above d few = agree_below_at (λ k. above_blank (get_or lower_digits k 0)) (λ k. true) 16 d refl few

text-above : (bytes : List ℕ) → IsBytes bytes → list_all above_blank (encode_lower bytes) ≡ true
unfolding encode_with
text-above [] fit = refl
text-above (b ∷ bs) fit =
    let byte : b < 256 = fit 0 in
    and_from _ _ (digit-above (b / 16) (omega arith)) (and_from _ _ (digit-above (b % 16) (omega arith)) (text-above bs (λ i. fit (suc i))))

is_word-text : (b : ℕ) (bs : List ℕ) → is_word (encode_lower (b ∷ bs)) ≡ true
unfolding encode_with
is_word-text b bs = refl

pub bytes-words : (bytes : List ℕ) → IsBytes bytes → Words above_blank (bytes_words bytes)
bytes-words [] fit = tt
bytes-words (b ∷ bs) fit = ((is_word-text b bs, text-above (b ∷ bs) fit), tt)
