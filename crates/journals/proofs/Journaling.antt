-- Reading lines one after another.
use Rattle.std.proofs.Common.{◌≡◌, ℕ, Bool, ◌+◌, ◌≤◌, List, [], ◌∷◌, ◌++◌, length, Some, None, Ok, Err, Result, refl, sym, ap, append_assoc, arith}
use Rattle.std.specs.List.{slice_split}
use Rattle.std.specs.Str.Lines.{strip_carriage_return}
use Rattle.std.proofs.lemmas.List.Splits.{length-slice_split}
use Rattle.journals.specs.declared.journals.Mistake.{Mistake}
use Rattle.journals.specs.declared.wrongs.Wrong.{Wrong}
use Rattle.journals.specs.Journals.{before, journal_from}
use Rattle.journals.specs.Lines.{Said, said_in}
use Rattle.journals.specs.Words.{ended}

-- what lines say after others
abbrev pub after : List Said → Result (List Said) Mistake → Result (List Said) Mistake
after front (Ok lines) = Ok (front ++ lines)
after front (Err mistake) = Err mistake

after-before : (front : List Said) (s : Said) (rest : Result (List Said) Mistake) → after front (before s rest) ≡ after (front ++ s ∷ []) rest
after-before front s (Ok lines) = ap (λ all. Ok all) (sym (append_assoc front (s ∷ []) lines))
after-before front s (Err mistake) = refl

pub after-none : (rest : Result (List Said) Mistake) → after [] rest ≡ rest
after-none (Ok lines) = refl
after-none (Err mistake) = refl

-- a line that says something, one that is passed over, one that is wrong
pub line_some : (front : List Said) (n : ℕ) (line : List ℕ) (lines : List (List ℕ)) (s : Said) → said_in line ≡ Ok (Some s) → after front (journal_from n (line ∷ lines)) ≡ after (front ++ s ∷ []) (journal_from (n + 1) lines)
line_some front n line lines s is = rw is (after-before front s (journal_from (n + 1) lines))

pub line_none : (front : List Said) (n : ℕ) (line : List ℕ) (lines : List (List ℕ)) → said_in line ≡ Ok None → after front (journal_from n (line ∷ lines)) ≡ after front (journal_from (n + 1) lines)
line_none front n line lines is = rw is

pub line_wrong : (front : List Said) (n : ℕ) (line : List ℕ) (lines : List (List ℕ)) (wrong : Wrong) → said_in line ≡ Err wrong → after front (journal_from n (line ∷ lines)) ≡ Err (record { line = n; wrong = wrong })
line_wrong front n line lines wrong is = rw is

-- a part before others ends a line
ended_more : (line : List ℕ) (lines : List (List ℕ)) → 1 ≤ length lines → ended (line ∷ lines) ≡ strip_carriage_return line ∷ ended lines
ended_more line [] some = absurd (omega arith)
ended_more line (next ∷ lines) some = refl

-- and so does one before those of any text, since each has one at least
pub ended_text : (line : List ℕ) (ends : ℕ → Bool) (text : List ℕ) → ended (line ∷ slice_split ends text) ≡ strip_carriage_return line ∷ ended (slice_split ends text)
ended_text line ends text = ended_more line (slice_split ends text) (omega (arith, length-slice_split ends text))
