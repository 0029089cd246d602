-- What is written for a line is read as that line, and so is a journal.
use Rattle.std.proofs.Common.{◌≡◌, ℕ, zero, suc, ◌+◌, ◌-◌, ◌^◌, ◌<◌, Bool, true, false, eqb, leb, List, [], ◌∷◌, ◌++◌, length, map, take, get_or, Some, None, Ok, refl, ap, ◌∙◌, append_assoc, arith}
use Rattle.std.specs.Fmt.{decimal}
use Rattle.std.specs.List.{filter, list_all, AllByRecursion}
use Rattle.std.specs.Str.Lines.{strip_carriage_return}
use Rattle.std.proofs.lemmas.Bool.{and_parts, and_from, cond-true, cond-false, ltb-true, leb-true, le-leb, ne_eqb, or_from}
use Rattle.std.proofs.lemmas.List.Folds.{list_all-append}
use Rattle.offers.specs.declared.kinds.Kind.{Kind}
use Rattle.offers.specs.declared.kinds.Kind.TheVariants as kind
use Rattle.journals.specs.declared.wrongs.Wrong.TheVariants.{UnknownKind}
use Rattle.journals.specs.Journals.{journal_from}
use Rattle.journals.specs.Laws.{LinesReadBack, JournalsReadBack}
use Rattle.journals.specs.Lines.{Said, File, Withdraw, CatchUp, Close, Search, Reopen, Award, Fees, Sheet, said_at, said_by}
use Rattle.journals.specs.Names.{kinds}
use Rattle.journals.specs.Readers.{name_at}
use Rattle.journals.specs.Texts.{behind, spaced, kind_word, kind_of, words_of, line_text, journal_text, Fits}
use Rattle.journals.specs.Words.{words_in, ended, lines_in, is_blank, is_word}
use Rattle.journals.proofs.Journaling.{ended_text}
use Rattle.journals.proofs.ByteTexts.{bytes_at-words, bytes-words}
use Rattle.journals.proofs.Decimals.{above_blank, number_at-decimal, sized-decimal, decimal-above, is_word-decimal}
use Rattle.journals.proofs.Plain.{Words, Apart, split-front, split-joined}
use Rattle.journals.proofs.RecordTexts.{offer_at-words, offer-words}
use Rattle.journals.proofs.RuleTexts.{stack_at-words, chain_at-rules, stack-words, rules-words}

-- a kind by its name
name_at-kind : (k : Kind) (words : List (List ℕ)) → name_at UnknownKind kinds (kind_word k ∷ words) ≡ Ok (k, words)
unfolding name_at
name_at-kind kind.Package words = refl
name_at-kind kind.Band words = refl
name_at-kind kind.Pair words = refl
name_at-kind kind.Exclusion words = refl
name_at-kind kind.Limit words = refl

-- a line's words
pub said_by-words : (s : Said) → Fits s → said_by (words_of s) ≡ Ok (Some s)
unfolding said_by said_at
said_by-words (File n o) fit = rw (name_at-kind (kind_of o), number_at-decimal 1 n (omega arith) fit.0, offer_at-words o fit.1)
said_by-words (Withdraw k n) fit = rw (name_at-kind k, number_at-decimal 1 n (omega arith) fit)
said_by-words (CatchUp bytes) fit = rw (bytes_at-words bytes fit)
said_by-words (Close plain_stack) fit = rw (stack_at-words plain_stack fit)
said_by-words (Search rules steps) fit = rw (chain_at-rules rules, number_at-decimal 4 steps (omega arith) (omega arith))
said_by-words Reopen fit = refl
said_by-words (Award length) fit = rw (sized-decimal 4 length (omega arith) (omega arith))
said_by-words (Fees rates length) fit =
    rw (
      number_at-decimal 4 rates.first (omega arith) fit.0.0,
      number_at-decimal 4 rates.second (omega arith) fit.0.1,
      number_at-decimal 4 rates.third (omega arith) fit.0.2,
      sized-decimal 4 length (omega arith) fit.1,
    )
said_by-words (Sheet None) fit = refl
said_by-words (Sheet (Some length)) fit = rw (sized-decimal 4 length (omega arith) (omega arith))

-- no word has a blank
kind-word : (k : Kind) → (is_word (kind_word k) ≡ true) × (list_all above_blank (kind_word k) ≡ true)
kind-word kind.Package = (refl, refl)
kind-word kind.Band = (refl, refl)
kind-word kind.Pair = (refl, refl)
kind-word kind.Exclusion = (refl, refl)
kind-word kind.Limit = (refl, refl)

number-word : (n : ℕ) → n < 2 ^ 64 → (is_word (decimal n) ≡ true) × (list_all above_blank (decimal n) ≡ true)
number-word n fits = (is_word-decimal n fits, decimal-above n fits)

words-plain : (s : Said) → Fits s → Words above_blank (words_of s)
words-plain (File n o) fit = ((refl, refl), (kind-word (kind_of o), (number-word n (omega arith), offer-words o fit.1)))
words-plain (Withdraw k n) fit = ((refl, refl), (kind-word k, (number-word n (omega arith), tt)))
words-plain (CatchUp bytes) fit = ((refl, refl), bytes-words bytes fit)
words-plain (Close plain_stack) fit = ((refl, refl), stack-words plain_stack fit)
words-plain (Search rules steps) fit = ((refl, refl), ((rules-words rules).0, (number-word steps (omega arith), tt)))
words-plain Reopen fit = ((refl, refl), tt)
words-plain (Award length) fit = ((refl, refl), (number-word length (omega arith), tt))
words-plain (Fees rates length) fit =
    let first = number-word rates.first (omega (arith, fit.0.0)) in
    let second = number-word rates.second (omega (arith, fit.0.1)) in
    let third = number-word rates.third (omega (arith, fit.0.2)) in
    ((refl, refl), (first, (second, (third, (number-word length (omega (arith, fit.1)), tt)))))
words-plain (Sheet None) fit = ((refl, refl), tt)
words-plain (Sheet (Some length)) fit = ((refl, refl), (number-word length (omega arith), tt))

-- the words of a line's text are the words that were written
blank-apart : Apart above_blank is_blank
blank-apart b above =
    or_from _ _ (ne_eqb b 32 (λ e. absurd (omega (arith, ltb-true _ _ above)))) (ne_eqb b 9 (λ e. absurd (omega (arith, ltb-true _ _ above))))

filter-words : (words : List (List ℕ)) → Words above_blank words → filter is_word words ≡ words
filter-words [] plain = refl
filter-words (word ∷ words) plain =
    cond-true (is_word word) (word ∷ filter is_word words) (filter is_word words) plain.0.0 ∙ ap (λ ws. word ∷ ws) (filter-words words plain.1)

words_in-spaced : (words : List (List ℕ)) → Words above_blank words → words_in (spaced words) ≡ words
words_in-spaced [] plain = refl
words_in-spaced (word ∷ words) plain =
    ap (filter is_word) (split-joined above_blank is_blank blank-apart 32 refl word words plain.0.1 plain.1) ∙ filter-words (word ∷ words) plain

-- no line's text is passed over
begins : (s : Said) → eqb (get_or (line_text s) 0 0) 35 ≡ false
begins (File n o) = refl
begins (Withdraw k n) = refl
begins (CatchUp bytes) = refl
begins (Close plain_stack) = refl
begins (Search rules steps) = refl
begins Reopen = refl
begins (Award length) = refl
begins (Fees rates length) = refl
begins (Sheet length) = refl

pub lines_read_back : LinesReadBack
lines_read_back s fit =
    cond-false _ (Ok None) (said_by (words_in (line_text s))) (begins s)
    ∙ (ap said_by (words_in-spaced (words_of s) (words-plain s fit)) ∙ said_by-words s fit)

-- a line's text has no control characters
abbrev printed : ℕ → Bool
printed b = leb 32 b

printed-above : (bytes : List ℕ) → list_all above_blank bytes ≡ true → list_all printed bytes ≡ true
printed-above [] all = refl
printed-above (b ∷ bs) all =
    let parts = and_parts (above_blank b) (list_all above_blank bs) all in
    and_from _ _ (le-leb 32 b (omega (arith, ltb-true _ _ parts.0))) (printed-above bs parts.1)

printed-behind : (words : List (List ℕ)) → Words above_blank words → list_all printed (behind words) ≡ true
printed-behind [] plain = refl
printed-behind (word ∷ words) plain =
    list_all-append printed (32 ∷ word) (behind words) ∙ and_from _ _ (printed-above word plain.0.1) (printed-behind words plain.1)

printed-spaced : (words : List (List ℕ)) → Words above_blank words → list_all printed (spaced words) ≡ true
printed-spaced [] plain = refl
printed-spaced (word ∷ words) plain =
    list_all-append printed word (behind words) ∙ and_from _ _ (printed-above word plain.0.1) (printed-behind words plain.1)

printed-line : (s : Said) → Fits s → list_all printed (line_text s) ≡ true
printed-line s fit = printed-spaced (words_of s) (words-plain s fit)

-- so it has no line end in it, and no carriage return at its end
abbrev is_line_end : ℕ → Bool
is_line_end b = eqb b 10

line-apart : Apart printed is_line_end
line-apart b kept = ne_eqb b 10 (λ e. absurd (omega (arith, leb-true _ _ kept)))

no-return : (bytes : List ℕ) (i : ℕ) → list_all printed bytes ≡ true → eqb (get_or bytes i 0) 13 ≡ false
no-return [] i all = refl
no-return (b ∷ bs) zero all =
    ne_eqb b 13 (λ e. absurd (omega (arith, leb-true _ _ (and_parts (printed b) (list_all printed bs) all).0)))
no-return (b ∷ bs) (suc i) all = no-return bs i (and_parts (printed b) (list_all printed bs) all).1

strip-printed : (bytes : List ℕ) → list_all printed bytes ≡ true → strip_carriage_return bytes ≡ bytes
strip-printed bytes all = cond-false _ (take (length bytes - 1) bytes) bytes (no-return bytes (length bytes - 1) all)

-- the lines of a journal's text, with nothing after the last line end
lines_in-journal : (lines : List Said) → AllByRecursion Fits lines → lines_in (journal_text lines) ≡ map line_text lines ++ [] ∷ []
lines_in-journal [] fit = refl
lines_in-journal (s ∷ lines) fit =
    ap (λ text. lines_in text) (append_assoc (line_text s) (10 ∷ []) (journal_text lines))
    ∙ (ap ended (split-front printed is_line_end line-apart (line_text s) 10 (journal_text lines) (printed-line s fit.0) refl)
    ∙ (ended_text (line_text s) is_line_end (journal_text lines)
    ∙ (ap (λ line. line ∷ lines_in (journal_text lines)) (strip-printed (line_text s) (printed-line s fit.0))
    ∙ ap (λ rest. line_text s ∷ rest) (lines_in-journal lines fit.1))))

journal_from-texts : (n : ℕ) (lines : List Said) → AllByRecursion Fits lines → journal_from n (map line_text lines ++ [] ∷ []) ≡ Ok lines
unfolding said_by
journal_from-texts n [] fit = refl
journal_from-texts n (s ∷ lines) fit = rw (lines_read_back s fit.0, journal_from-texts (n + 1) lines fit.1)

pub journals_read_back : JournalsReadBack
journals_read_back lines fit = ap (journal_from 1) (lines_in-journal lines fit) ∙ journal_from-texts 1 lines fit
