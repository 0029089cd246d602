-- Words joined by a separator are parted at it into the same words.
use Rattle.std.proofs.Common.{◌≡◌, ℕ, Bool, true, false, List, [], ◌∷◌, ◌++◌, refl, ap, ◌∙◌}
use Rattle.std.specs.List.{flat_map, list_all, slice_split, onto_first, AllByRecursion}
use Rattle.std.proofs.lemmas.Bool.{and_parts}
use Rattle.std.proofs.lemmas.List.{append-nil}
use Rattle.std.proofs.lemmas.List.Splits.{slice_split-cons_yes, slice_split-cons_no}
use Rattle.journals.specs.Words.{is_word}

-- bytes that pass a test are no separators
abbrev pub Apart : (ℕ → Bool) → (ℕ → Bool) → Type 0
Apart kept separates = (b : ℕ) → kept b ≡ true → separates b ≡ false

-- a front without separators, before one
pub split-front : (kept p : ℕ → Bool) → Apart kept p → (word : List ℕ) (s : ℕ) (rest : List ℕ) → list_all kept word ≡ true → p s ≡ true → slice_split p (word ++ s ∷ rest) ≡ word ∷ slice_split p rest
split-front kept p apart [] s rest all separates = slice_split-cons_yes p s rest separates
split-front kept p apart (b ∷ bs) s rest all separates =
    let parts = and_parts (kept b) (list_all kept bs) all in
    slice_split-cons_no p b (bs ++ s ∷ rest) (apart b parts.0) ∙ ap (onto_first b) (split-front kept p apart bs s rest parts.1 separates)

-- and without any after it
pub split-whole : (kept p : ℕ → Bool) → Apart kept p → (word : List ℕ) → list_all kept word ≡ true → slice_split p word ≡ word ∷ []
split-whole kept p apart [] all = refl
split-whole kept p apart (b ∷ bs) all =
    let parts = and_parts (kept b) (list_all kept bs) all in
    slice_split-cons_no p b bs (apart b parts.0) ∙ ap (onto_first b) (split-whole kept p apart bs parts.1)

-- words: none is empty, and each passes a test byte by byte
abbrev pub Words : (ℕ → Bool) → List (List ℕ) → Type 0
Words kept words = AllByRecursion (λ word. (is_word word ≡ true) × (list_all kept word ≡ true)) words

-- words joined by a separator
pub split-joined : (kept p : ℕ → Bool) → Apart kept p → (s : ℕ) → p s ≡ true → (word : List ℕ) (words : List (List ℕ)) → list_all kept word ≡ true → Words kept words → slice_split p (word ++ flat_map (λ w. s ∷ w) words) ≡ word ∷ words
split-joined kept p apart s separates word [] all each = ap (slice_split p) (append-nil word) ∙ split-whole kept p apart word all
split-joined kept p apart s separates word (next ∷ words) all each =
    split-front kept p apart word s (next ++ flat_map (λ w. s ∷ w) words) all separates
    ∙ ap (λ ws. word ∷ ws) (split-joined kept p apart s separates next words each.0.1 each.1)
