-- What the digits of a word come to.
use Rattle.std.proofs.Common.{◌≡◌, ℕ, ◌+◌, ◌-◌, ◌*◌, ◌^◌, ◌<◌, ◌≤◌, true, false, cond, eqb, ltb, List, [], ◌∷◌, length, get_or, drop, Some, None, Ok, Err, sym, ap, ◌∙◌, inl, inr, arith}
use Rattle.std.specs.Char.{is_ascii_digit}
use Rattle.std.specs.List.{list_all}
use Rattle.std.proofs.lemmas.Bool.{cases_Bool, cond-true, cond-false, lt-ltb, le-ltb, ltb-false}
use Rattle.std.proofs.lemmas.Option.{none-some}
use Rattle.std.proofs.lemmas.List.{at_drop_more}
use Rattle.journals.specs.declared.wrongs.Wrong.TheVariants.{TooLarge}
use Rattle.journals.specs.Numbers.{is_number, number_in, value_on, sized}

-- more digits make no less
pub value_on-le : (n : ℕ) (cs : List ℕ) → n ≤ value_on n cs
value_on-le n [] = omega arith
value_on-le n (c ∷ cs) = omega (arith, value_on-le (10 * n + (c - 48)) cs)

-- a word of digits alone is a number
number_in-digits : (word : List ℕ) → eqb (length word) 0 ≡ false → list_all is_ascii_digit word ≡ true → number_in word ≡ Some (value_on 0 word)
number_in-digits word some digits = cond-true (is_number word) (Some (value_on 0 word)) None (rw (some, digits))

-- and so many bytes hold it or do not
pub sized_fits : (width : ℕ) (word : List ℕ) (n : ℕ) → eqb (length word) 0 ≡ false → list_all is_ascii_digit word ≡ true → n ≡ value_on 0 word → n < 256 ^ width → Ok n ≡ sized width (number_in word)
sized_fits width word n some digits is fits =
    sym (ap (sized width) (number_in-digits word some digits)
    ∙ (cond-true (ltb (value_on 0 word) (256 ^ width)) (Ok (value_on 0 word)) (Err TooLarge) (lt-ltb _ _ (omega arith))
    ∙ ap (λ v. Ok v) (sym is)))

pub sized_large : (width : ℕ) (word : List ℕ) → eqb (length word) 0 ≡ false → list_all is_ascii_digit word ≡ true → 256 ^ width ≤ value_on 0 word → Err TooLarge ≡ sized width (number_in word)
sized_large width word some digits large =
    sym (ap (sized width) (number_in-digits word some digits)
    ∙ cond-false (ltb (value_on 0 word) (256 ^ width)) (Ok (value_on 0 word)) (Err TooLarge) (le-ltb _ _ large))

-- after so many digits, with one more that makes too much
pub value_on-more : (n : ℕ) (word : List ℕ) (i : ℕ) → i < length word → value_on n (drop i word) ≡ value_on 0 word → 10 * n + (get_or word i 0 - 48) ≤ value_on 0 word
value_on-more n word i within is =
    let more = at_drop_more (value_on n) word i 0 within in
    omega (arith, value_on-le (10 * n + (get_or word i 0 - 48)) (drop (i + 1) word), sym is ∙ more)

-- a number that is not below a bound
pub no_room : (n most : ℕ) (x : ℕ) → cond (ltb n most) (Some x) None ≡ None → most ≤ n
no_room n most x none =
    elim (cases_Bool (ltb n most)) [
      | inl below ↦ absurd (none-some x (sym none ∙ cond-true _ (Some x) None below))
      | inr past ↦ ltb-false _ _ past
    ]
