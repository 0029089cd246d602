-- Why a text can be taken apart from its front: the parts that a separator makes, and the words of a line.
use Rattle.std.proofs.Common.{◌≡◌, ℕ, ◌+◌, ◌≤◌, suc, Bool, true, false, not, ltb, List, [], ◌∷◌, length, get_or, take, drop, Some, None, Option, Bor, unwrap_or, refl, sym, ap, subst, ◌∙◌, inl, inr, arith}
use Rattle.std.specs.List.{filter, slice_split, onto_first, position, position_or_len}
use Rattle.std.proofs.lemmas.Bool.{cases_Bool, cond-true, cond-false, not_from_false, not_from_true, not-true, ltb-false}
use Rattle.std.proofs.lemmas.Option.{cond_some, none-some}
use Rattle.std.proofs.lemmas.List.{take_all, drop_all, drop_more}
use Rattle.std.proofs.lemmas.List.Quantifiers.{position-Some}
use Rattle.std.proofs.lemmas.List.Splits.{slice_split-cons_yes, slice_split-cons_no}
use Rattle.std.proofs.lemmas.List.Sums.{prefix_len-le-length}
use Rattle.journals.specs.Words.{words_in, is_blank, is_word}

-- the parts after the first, of what stands from the first separator on
abbrev pub later_parts : (ℕ → Bool) → List ℕ → List (List ℕ)
later_parts p [] = []
later_parts p (b ∷ bs) = slice_split p bs

-- where the first byte that passes stands, when the one in front does or does not
here : (p : ℕ → Bool) (b : ℕ) (bs : List ℕ) → p b ≡ true → position_or_len p (b ∷ bs) ≡ 0
here p b bs h = cond-false _ (1 + position_or_len p bs) 0 (not_from_true _ h)

further : (p : ℕ → Bool) (b : ℕ) (bs : List ℕ) → p b ≡ false → position_or_len p (b ∷ bs) ≡ suc (position_or_len p bs)
further p b bs h = cond-true _ (1 + position_or_len p bs) 0 (not_from_false _ h) ∙ omega arith

-- a list goes on at a place that is its front or further on
at_front : {X : Type 0} (F : List ℕ → List ℕ → X) (p : ℕ → Bool) (b : ℕ) (bs : List ℕ) → p b ≡ true → let n = position_or_len p (b ∷ bs) in F (take n (b ∷ bs)) (drop n (b ∷ bs)) ≡ F [] (b ∷ bs)
at_front F p b bs h = ap (λ n. F (take n (b ∷ bs)) (drop n (b ∷ bs))) (here p b bs h)

past_front : {X : Type 0} (F : List ℕ → List ℕ → X) (p : ℕ → Bool) (b : ℕ) (bs : List ℕ) → p b ≡ false → let n = position_or_len p (b ∷ bs) in let m = position_or_len p bs in F (take n (b ∷ bs)) (drop n (b ∷ bs)) ≡ F (b ∷ take m bs) (drop m bs)
past_front F p b bs h = ap (λ n. F (take n (b ∷ bs)) (drop n (b ∷ bs))) (further p b bs h)

-- the first part is what stands before the first separator
pub slice_split-front : (p : ℕ → Bool) (bytes : List ℕ) → let n = position_or_len p bytes in slice_split p bytes ≡ take n bytes ∷ later_parts p (drop n bytes)
slice_split-front p [] = refl
slice_split-front p (b ∷ bs) =
    elim (cases_Bool (p b)) [
      | inl parted ↦ slice_split-cons_yes p b bs parted ∙ sym (at_front (λ front rest. front ∷ later_parts p rest) p b bs parted)
      | inr joined ↦ slice_split-cons_no p b bs joined ∙ (ap (onto_first b) (slice_split-front p bs) ∙ sym (past_front (λ front rest. front ∷ later_parts p rest) p b bs joined))
    ]

-- a blank in front changes nothing
words_in-blank : (b : ℕ) (bs : List ℕ) → is_blank b ≡ true → words_in (b ∷ bs) ≡ words_in bs
words_in-blank b bs blank = ap (filter is_word) (slice_split-cons_yes is_blank b bs blank)

-- whether a byte is no blank
abbrev is_other : ℕ → Bool
is_other b = not (is_blank b)

-- nor do blanks up to the first byte that is none
words_in-drop : (bytes : List ℕ) → words_in (drop (position_or_len is_other bytes) bytes) ≡ words_in bytes
words_in-drop [] = refl
words_in-drop (b ∷ bs) =
    elim (cases_Bool (is_blank b)) [
      | inl blank ↦ past_front (λ front rest. words_in rest) is_other b bs (not_from_true _ blank) ∙ (words_in-drop bs ∙ sym (words_in-blank b bs blank))
      | inr other ↦ at_front (λ front rest. words_in rest) is_other b bs (not_from_false _ other)
    ]

-- from the first blank on there are the words of the later parts
words_in-later : (bytes : List ℕ) → let rest = drop (position_or_len is_blank bytes) bytes in words_in rest ≡ filter is_word (later_parts is_blank rest)
words_in-later [] = refl
words_in-later (b ∷ bs) =
    elim (cases_Bool (is_blank b)) [
      | inl blank ↦ at_front (λ front rest. words_in rest) is_blank b bs blank ∙ (words_in-blank b bs blank ∙ sym (at_front (λ front rest. filter is_word (later_parts is_blank rest)) is_blank b bs blank))
      | inr other ↦ past_front (λ front rest. words_in rest) is_blank b bs other ∙ (words_in-later bs ∙ sym (past_front (λ front rest. filter is_word (later_parts is_blank rest)) is_blank b bs other))
    ]

-- the first word ends at the first blank, or at the end
words_in-word : (b : ℕ) (bs : List ℕ) → is_blank b ≡ false → let n = position_or_len is_blank (b ∷ bs) in words_in (b ∷ bs) ≡ take n (b ∷ bs) ∷ words_in (drop n (b ∷ bs))
words_in-word b bs other =
    ap (filter is_word) (slice_split-front is_blank (b ∷ bs))
    ∙ (past_front (λ front rest. filter is_word (front ∷ later_parts is_blank rest)) is_blank b bs other
    ∙ (ap (λ words. (b ∷ take (position_or_len is_blank bs) bs) ∷ words) (sym (words_in-later bs))
    ∙ sym (past_front (λ front rest. front ∷ words_in rest) is_blank b bs other)))

-- what `position` answers
found : (p : ℕ → Bool) (bytes : List ℕ) (n : ℕ) → position p bytes ≡ Some n → position_or_len p bytes ≡ n
found p bytes n h = (cond_some _ (position_or_len p bytes) n h).1

-- none passes
not_found : (p : ℕ → Bool) (bytes : List ℕ) → position p bytes ≡ None → length bytes ≤ position_or_len p bytes
not_found p bytes h =
    elim (cases_Bool (ltb (position_or_len p bytes) (length bytes))) [
      | inl within ↦ absurd (none-some (position_or_len p bytes) (sym h ∙ cond-true _ (Some (position_or_len p bytes)) None within))
      | inr past ↦ ltb-false _ _ past
    ]

unwrap_or-position : (p : ℕ → Bool) (bytes : List ℕ) → unwrap_or (position p bytes) (length bytes) ≡ position_or_len p bytes
unwrap_or-position p bytes =
    elim (cases_Bool (ltb (position_or_len p bytes) (length bytes))) [
      | inl within ↦ ap (λ o. unwrap_or o (length bytes)) (cond-true _ (Some (position_or_len p bytes)) None within)
      | inr past ↦ ap (λ o. unwrap_or o (length bytes)) (cond-false _ (Some (position_or_len p bytes)) None past) ∙ omega (arith, ltb-false _ _ past, prefix_len-le-length (λ x. not (p x)) bytes)
    ]

-- a text is one part, or has the part before its first separator and those after it
pub one_part : (p : ℕ → Bool) (bytes : List ℕ) → position p bytes ≡ None → slice_split p bytes ≡ bytes ∷ []
one_part p bytes none =
    let past = not_found p bytes none in
    slice_split-front p bytes ∙ (ap (λ front. front ∷ later_parts p (drop (position_or_len p bytes) bytes)) (take_all (position_or_len p bytes) bytes past)
    ∙ ap (λ rest. bytes ∷ later_parts p rest) (drop_all (position_or_len p bytes) bytes past))

pub first_part : (p : ℕ → Bool) (bytes : List ℕ) (at : ℕ) → position p bytes ≡ Some at → slice_split p bytes ≡ take at bytes ∷ slice_split p (drop (at + 1) bytes)
first_part p bytes at some =
    slice_split-front p bytes ∙ (ap (λ n. take n bytes ∷ later_parts p (drop n bytes)) (found p bytes at some)
    ∙ ap (λ rest. take at bytes ∷ later_parts p rest) (drop_more bytes at 0 (position-Some p bytes at 0 some).0))

-- a line of blanks alone has no words
pub no_word : (bytes : List ℕ) → position is_other bytes ≡ None → words_in bytes ≡ []
no_word bytes none =
    sym (words_in-drop bytes) ∙ ap words_in (drop_all (position_or_len is_other bytes) bytes (not_found is_other bytes none))

-- a word in front ends at the first blank, or at the end
abbrev BeginsWithWord : List ℕ → Type 0
BeginsWithWord rest = let n = unwrap_or (position is_blank rest) (length rest) in words_in rest ≡ take n rest ∷ words_in (drop n rest)

begins_with_word : (b : ℕ) (bs : List ℕ) → is_blank b ≡ false → BeginsWithWord (b ∷ bs)
begins_with_word b bs other =
    words_in-word b bs other ∙ ap (λ n. take n (b ∷ bs) ∷ words_in (drop n (b ∷ bs))) (sym (unwrap_or-position is_blank (b ∷ bs)))

-- the first word begins at the first byte that is no blank
pub first_word : (bytes : List ℕ) (start : ℕ) → position is_other bytes ≡ Some start → let rest = drop start bytes in let n = unwrap_or (position is_blank rest) (length rest) in words_in bytes ≡ take n rest ∷ words_in (drop n rest)
first_word bytes start some =
    let at = position-Some is_other bytes start 0 some in
    let rest = drop_more bytes start 0 at.0 in
    sym (words_in-drop bytes) ∙ (ap (λ n. words_in (drop n bytes)) (found is_other bytes start some)
    ∙ subst BeginsWithWord (sym rest) (begins_with_word (get_or bytes start 0) (drop (start + 1) bytes) (not-true _ at.1)))

-- how much is left, where anything is
abbrev pub size_left : Option (Bor (List ℕ)) → ℕ
size_left None = 0
size_left (Some rest) = length rest.now + 1
