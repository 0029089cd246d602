-- What is written for a number is read as that number.
use Rattle.std.proofs.Common.{◌≡◌, ℕ, suc, ◌^◌, ◌<◌, ◌≤◌, Bool, true, false, eqb, ltb, leb, List, [], ◌∷◌, length, ℤ, pos, negsuc, Some, None, Ok, Err, refl, sym, ap, ◌∙◌, rules, arith}
use Rattle.std.specs.Char.{is_ascii_digit}
use Rattle.std.specs.Fmt.{decimal, signed_decimal}
use Rattle.std.specs.List.{list_all}
use Rattle.std.proofs.lemmas.Bool.{and_parts, and_from, cond-true, cond-false, lt-ltb, leb-true, ne_eqb, false≢true}
use Rattle.pricing.specs.Numbers.{zone_number}
use Rattle.std.proofs.lemmas.Fmt.{decimal_nonempty, digits_decimal, digits_value-decimal}
use Rattle.std.proofs.lemmas.Str.Parse.{IsNumeralModel, numerals_by_fold}
use Rattle.journals.specs.declared.wrongs.Wrong.TheVariants.{TooLarge}
use Rattle.journals.specs.Numbers.{is_number, number_in, value_on, sized, signed_in}
use Rattle.journals.specs.Readers.{number_at, signed_at}
use Rattle.journals.specs.Words.{is_word}

-- our words for a text of digits and its value are the library's
own : IsNumeralModel (λ ds. list_all is_ascii_digit ds ≡ true) (value_on 0)
own = numerals_by_fold _ (search rules) value_on (search rules)

some_digits : (n : ℕ) → n < 2 ^ 64 → eqb (length (decimal n)) 0 ≡ false
some_digits n fits = ne_eqb _ _ (λ none. absurd (omega (arith, decimal_nonempty n fits)))

-- a number's digits are read as it
pub number_in-decimal : (n : ℕ) → n < 2 ^ 64 → number_in (decimal n) ≡ Some n
number_in-decimal n fits =
    cond-true (is_number (decimal n)) (Some (value_on 0 (decimal n))) None (and_from _ _ (rw (some_digits n fits)) (digits_decimal own n fits))
    ∙ ap (λ v. Some v) (digits_value-decimal own n fits)

pub sized-decimal : (width n : ℕ) → n < 2 ^ 64 → n < 256 ^ width → sized width (number_in (decimal n)) ≡ Ok n
sized-decimal width n fits holds =
    ap (sized width) (number_in-decimal n fits) ∙ cond-true (ltb n (256 ^ width)) (Ok n) (Err TooLarge) (lt-ltb _ _ holds)

pub number_at-decimal : (width n : ℕ) → n < 2 ^ 64 → n < 256 ^ width → (words : List (List ℕ)) → number_at width (decimal n ∷ words) ≡ Ok (n, words)
unfolding number_at
number_at-decimal width n fits holds words = rw (sized-decimal width n fits holds)

is_word-long : (word : List ℕ) → 0 < length word → is_word word ≡ true
is_word-long [] some = absurd (omega arith)
is_word-long (b ∷ bs) some = refl

-- its digits are no blanks
abbrev pub above_blank : ℕ → Bool
above_blank b = ltb 32 b

digit-above : (ds : List ℕ) → list_all is_ascii_digit ds ≡ true → list_all above_blank ds ≡ true
digit-above [] all = refl
digit-above (c ∷ cs) all =
    let parts = and_parts (is_ascii_digit c) (list_all is_ascii_digit cs) all in
    let range = and_parts (leb 48 c) (leb c 57) parts.0 in
    and_from _ _ (lt-ltb 32 c (omega (arith, leb-true _ _ range.0))) (digit-above cs parts.1)

pub decimal-above : (n : ℕ) → n < 2 ^ 64 → list_all above_blank (decimal n) ≡ true
decimal-above n fits = digit-above (decimal n) (digits_decimal own n fits)

-- digits with no minus before them are read as a number above 0, or 0
signed_in-digits : (ds : List ℕ) (n : ℕ) → list_all is_ascii_digit ds ≡ true → eqb (length ds) 0 ≡ false → sized 4 (number_in ds) ≡ Ok n → signed_in ds ≡ Ok (pos n)
signed_in-digits [] n all some is = absurd (false≢true (sym some))
signed_in-digits (c ∷ cs) n all some is =
    let first = (and_parts (is_ascii_digit c) (list_all is_ascii_digit cs) all).0 in
    let range = and_parts (leb 48 c) (leb c 57) first in
    cond-false (eqb c 45) _ _ (ne_eqb c 45 (λ minus. absurd (omega (arith, leb-true _ _ range.0)))) ∙ rw is

-- a number of a price zone is read as it
pub signed_in-zone : (z : ℤ) → zone_number z ≡ true → signed_in (signed_decimal z) ≡ Ok z
signed_in-zone (pos n) small =
    let most : n ≤ 1000 = leb-true n 1000 small in
    let fits : n < 2 ^ 64 = omega arith in
    signed_in-digits (decimal n) n (digits_decimal own n fits) (some_digits n fits) (sized-decimal 4 n fits (omega arith))
signed_in-zone (negsuc n) small =
    let most : n ≤ 999 = leb-true n 999 (and_parts (leb n 999) true small).0 in
    rw (sized-decimal 4 (suc n) (omega arith) (omega arith))

pub signed_at-zone : (z : ℤ) → zone_number z ≡ true → (words : List (List ℕ)) → signed_at (signed_decimal z ∷ words) ≡ Ok (z, words)
unfolding signed_at
signed_at-zone z small words = rw (signed_in-zone z small)

pub signed-above : (z : ℤ) → zone_number z ≡ true → list_all above_blank (signed_decimal z) ≡ true
signed-above (pos n) small =
    let most : n ≤ 1000 = leb-true n 1000 small in
    decimal-above n (omega arith)
signed-above (negsuc n) small =
    let most : n ≤ 999 = leb-true n 999 (and_parts (leb n 999) true small).0 in
    decimal-above (suc n) (omega arith)

-- what has a digit is a word
pub is_word-decimal : (n : ℕ) → n < 2 ^ 64 → is_word (decimal n) ≡ true
is_word-decimal n fits = is_word-long (decimal n) (decimal_nonempty n fits)

pub is_word-signed : (z : ℤ) → zone_number z ≡ true → is_word (signed_decimal z) ≡ true
is_word-signed (pos n) small =
    let most : n ≤ 1000 = leb-true n 1000 small in
    is_word-decimal n (omega arith)
is_word-signed (negsuc n) small = refl
