-- Words as numbers.
use Rattle.std.specs.Prelude.{ℕ, ◌+◌, ◌-◌, ◌*◌, ◌^◌, Bool, not, ◌&&◌, nat_lt, ◌==◌, List, [], ◌∷◌, length, ℤ, pos, neg_ℤ, Some, None, Option, Ok, Err, Result, if◌then◌else◌}
use Rattle.std.specs.Char.{is_ascii_digit}
use Rattle.std.specs.List.{list_all}
use Rattle.journals.specs.declared.wrongs.Wrong.{Wrong}
use Rattle.journals.specs.declared.wrongs.Wrong.TheVariants.{NotANumber, TooLarge}
use Rattle.journals.specs.Wrongs.{◌>>=◌}

-- one decimal digit or more, and nothing else
abbrev pub is_number : List ℕ → Bool
is_number word = not (length word == 0) && list_all is_ascii_digit word

-- what digits stand for, after those of n
abbrev pub value_on : ℕ → List ℕ → ℕ
value_on n [] = n
value_on n (c ∷ cs) = value_on (10 * n + (c - 48)) cs

-- a digit more behind a number that eight bytes hold, where they hold it still
abbrev pub digit_more : ℕ → ℕ → Option ℕ
digit_more n c = if nat_lt (10 * n + (c - 48)) (2 ^ 64) then Some (10 * n + (c - 48)) else None

-- the number that a word is
abbrev pub number_in : List ℕ → Option ℕ
number_in word = if is_number word then Some (value_on 0 word) else None

-- a number that so many bytes hold
abbrev pub sized : ℕ → Option ℕ → Result ℕ Wrong
sized width None = Err NotANumber
sized width (Some n) = if nat_lt n (256 ^ width) then Ok n else Err TooLarge

-- a signed number: a number that four bytes hold, or one with a minus before it
abbrev pub signed_in : List ℕ → Result ℤ Wrong
signed_in [] = Err NotANumber
signed_in (c ∷ cs) =
    if c == 45
    then (sized 4 (number_in cs) >>= λ n. Ok (neg_ℤ (pos n)))
    else (sized 4 (number_in (c ∷ cs)) >>= λ n. Ok (pos n))
