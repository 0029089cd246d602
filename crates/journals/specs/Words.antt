-- A journal's text as lines, and a line as words.
use Rattle.std.specs.Prelude.{ℕ, Bool, true, false, ◌||◌, List, [], ◌∷◌, filter, ◌==◌, Some, None, Option}
use Rattle.std.specs.Borrow.{Bor}
use Rattle.std.specs.List.{slice_split}
use Rattle.std.specs.Str.Lines.{strip_carriage_return}

-- the parts of what is left of a text, where anything is
abbrev pub parts_in : (ℕ → Bool) → Option (Bor (List ℕ)) → List (List ℕ)
parts_in separates None = []
parts_in separates (Some text) = slice_split separates text.now

-- parts that each end a line, without a byte 13 at their end; the last, which ends none, as it is
abbrev pub ended : List (List ℕ) → List (List ℕ)
ended [] = []
ended (last ∷ []) = last ∷ []
ended (line ∷ next ∷ lines) = strip_carriage_return line ∷ ended (next ∷ lines)

-- lines end with a byte 10, and a byte 13 before it is dropped; what stands after the last byte 10 is a line too
abbrev pub lines_in : List ℕ → List (List ℕ)
lines_in text = ended (slice_split (λ b. b == 10) text)

-- the lines of what is left of a text, where anything is
abbrev pub lines_left : Option (Bor (List ℕ)) → List (List ℕ)
lines_left None = []
lines_left (Some text) = lines_in text.now

-- what parts words: a space or a tab
abbrev pub is_blank : ℕ → Bool
is_blank b = (b == 32) || (b == 9)

abbrev pub is_word : List ℕ → Bool
is_word [] = false
is_word (b ∷ bs) = true

-- the words of a line: what stands between blanks and is not empty
abbrev pub words_in : List ℕ → List (List ℕ)
words_in line = filter is_word (slice_split is_blank line)
