-- How words are read: from the left, the first that is wrong deciding.
use Rattle.std.specs.Borrow.{Bor}
use Rattle.std.specs.Prelude.{◌≡◌, ℕ, ℤ, List, [], ◌∷◌, Some, None, Option, Ok, Err, Result}
use Rattle.journals.specs.declared.wrongs.ReadError.{ReadError}
use Rattle.journals.specs.declared.wrongs.ReadError.TheVariants as error
use Rattle.journals.specs.declared.wrongs.Wrong.{Wrong}
use Rattle.journals.specs.declared.wrongs.Wrong.TheVariants.{WordMissing, WordTooMany}
use Rattle.journals.specs.declared.words.Words.{Words}
use Rattle.journals.specs.Names.{Name, case_named}
use Rattle.journals.specs.Numbers.{number_in, sized, signed_in}
use Rattle.journals.specs.Words.{words_in}
use Rattle.journals.specs.Wrongs.{◌>>=◌}

-- what reading words comes to: a value, and the words after those that it took; or what is wrong
abbrev pub Reading : Type 0 → Type 0
Reading X = Result (X × List (List ℕ)) Wrong

-- the words that are left
abbrev pub unread : Words → List (List ℕ)
unread words = words_in words.rest.now

-- the next of the words, where there is one, and the words after it
abbrev pub NextWord : Words → Option (Bor (List ℕ)) → Words → Type 0
NextWord before None after = (unread before ≡ []) × (unread after ≡ [])
NextWord before (Some word) after = unread before ≡ word.now ∷ unread after

-- what a function answered, seen by view, and the words that it left are what the definition says
abbrev pub Gives : {X Y : Type 0} → (X → Y) → Result X Wrong → Words → Reading Y → Type 0
Gives view (Ok x) words reading = reading ≡ Ok (view x, unread words)
Gives view (Err wrong) words reading = reading ≡ Err wrong

-- what a function that may run out of memory answered, seen by view, is what the definition says
abbrev pub Reads : {X Y : Type 0} → (X → Y) → Result X ReadError → Result Y Wrong → Type 0
Reads view (Ok x) reading = reading ≡ Ok (view x)
Reads view (Err (error.Wrong wrong)) reading = reading ≡ Err wrong
Reads view (Err error.OutOfMemory) reading = Unit {0}

-- the next word
abbrev pub word_at : List (List ℕ) → Reading (List ℕ)
word_at [] = Err WordMissing
word_at (word ∷ words) = Ok (word, words)

-- no word is left
abbrev pub end_at : List (List ℕ) → Reading Unit
end_at [] = Ok (tt, [])
end_at (word ∷ words) = Err WordTooMany

-- what a word stands for, or what is wrong where it stands for nothing
abbrev pub known : {C : Type 0} → Wrong → Option C → Result C Wrong
known wrong None = Err wrong
known wrong (Some c) = Ok c

-- the next word as a name
unfoldable pub name_at : {C : Type 0} → Wrong → List (Name C) → List (List ℕ) → Reading C
name_at wrong names words = do
  word ← word_at words
  c ← known wrong (case_named names word.0)
  Ok (c, word.1)

-- the next word as a number that so many bytes hold
unfoldable pub number_at : ℕ → List (List ℕ) → Reading ℕ
number_at width words = do
  word ← word_at words
  n ← sized width (number_in word.0)
  Ok (n, word.1)

-- the next word, where there is one, as a number that so many bytes hold
abbrev pub optional_at : ℕ → List (List ℕ) → Reading (Option ℕ)
optional_at width [] = Ok (None, [])
optional_at width (word ∷ words) = do
  n ← sized width (number_in word)
  Ok (Some n, words)

-- the next word as a signed number
unfoldable pub signed_at : List (List ℕ) → Reading ℤ
signed_at words = do
  word ← word_at words
  z ← signed_in word.0
  Ok (z, word.1)
