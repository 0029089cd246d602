-- Bytes written one after another as two hexadecimal digits each.
use Rattle.std.proofs.Common.{◌≡◌, ℕ, ◌+◌, ◌/◌, ◌%◌, ◌-◌, ◌^◌, ◌<◌, true, false, eqb, List, [], ◌∷◌, ◌++◌, length, take, get_or, refl, sym, ap, ◌∙◌, arith}
use Rattle.std.specs.Fmt.{digits, digit_glyph, padded_integral, format_spec}
use Rattle.std.proofs.lemmas.Bool.{agree_below_at, eqb-true}
use Rattle.std.proofs.lemmas.Fmt.{hex_byte}
use Rattle.std.proofs.lemmas.List.{take_more}
use Rattle.hex.specs.Hex.{encode_with, encode_lower, lower_digits}

-- the two digits of a byte
abbrev two_digits : List ℕ → ℕ → List ℕ
two_digits t b = get_or t (b / 16) 0 ∷ get_or t (b % 16) 0 ∷ []

encode_with-push : (t bytes : List ℕ) (b : ℕ) → encode_with t (bytes ++ b ∷ []) ≡ encode_with t bytes ++ two_digits t b
unfolding encode_with
encode_with-push t [] b = refl
encode_with-push t (c ∷ bytes) b = ap (λ rest. get_or t (c / 16) 0 ∷ get_or t (c % 16) 0 ∷ rest) (encode_with-push t bytes b)

-- both tables of digits are one
same_digit : (d : ℕ) → d < 16 → get_or lower_digits d 0 ≡ digit_glyph false d
same_digit d few =
    eqb-true _ _ (agree_below_at (λ k. eqb (get_or lower_digits k 0) (digit_glyph false k)) (λ k. true) 16 d refl few)

-- what a byte writes
pub hex_digits : (b : ℕ) → b < 256 → padded_integral (format_spec 32 0 4 2 (2 ^ 64 - 1)) false [] (digits 16 false b) ≡ two_digits lower_digits b
hex_digits b few =
    hex_byte false b few
    ∙ (ap (λ d. d ∷ digit_glyph false (b % 16) ∷ []) (sym (same_digit (b / 16) (omega arith)))
    ∙ ap (λ d. get_or lower_digits (b / 16) 0 ∷ d ∷ []) (sym (same_digit (b % 16) (omega arith))))

-- the text after one byte more
pub encode_lower-more : (bytes : List ℕ) (i : ℕ) → i < length bytes → get_or bytes i 0 < 256 → encode_lower (take i bytes) ++ padded_integral (format_spec 32 0 4 2 (2 ^ 64 - 1)) false [] (digits 16 false (get_or bytes i 0)) ≡ encode_lower (take (i + 1) bytes)
encode_lower-more bytes i within few =
    ap (λ text. encode_lower (take i bytes) ++ text) (hex_digits (get_or bytes i 0) few)
    ∙ sym (ap encode_lower (take_more bytes i 0 within) ∙ encode_with-push lower_digits (take i bytes) (get_or bytes i 0))

pub encode_lower-none : encode_lower [] ≡ []
unfolding encode_with
encode_lower-none = refl
