-- Rows of numbers: one more at a place, two rows added, and what each of a row is at most.
use Rattle.std.specs.List.{list_all}
use Rattle.std.proofs.Common.{◌≡◌, ℕ, zero, suc, ◌+◌, ◌<◌, ◌≤◌, Bool, true, false, cond, ◌&&◌, eqb, List, [], ◌∷◌, length, get_or, set, sym, refl, ap, ◌∙◌, add-zero, arith}
use Rattle.std.proofs.lemmas.Bool.{and_from, eq-eqb, ne_eqb, cond-true, cond-false}
use Rattle.clearing.specs.Tallies.{row, plus}

-- a row has as many as are asked for
pub length-row : {X : Type 0} (f : ℕ → X) (n count : ℕ) → length (row f n count) ≡ count
length-row f n zero = refl
length-row f n (suc count) = ap suc (length-row f (n + 1) count)

-- what stands at a place of a row
pub getD_row : {X : Type 0} (f : ℕ → X) (n count i : ℕ) (d : X) → i < count → get_or (row f n count) i d ≡ f (n + i)
getD_row f n zero i d h = absurd (omega arith)
getD_row f n (suc count) zero d h = ap f (sym (add-zero n))
getD_row f n (suc count) (suc i) d h = getD_row f (n + 1) count i d (omega arith) ∙ ap f (omega arith)

-- a row depends on the function from its first number on
pub row_same : {X : Type 0} (f g : ℕ → X) (n count : ℕ) → ((m : ℕ) → n ≤ m → f m ≡ g m) → row f n count ≡ row g n count
row_same f g n zero same = refl
row_same f g n (suc count) same =
    rw (same n (omega arith), row_same f g (n + 1) count (λ m h. same m (omega arith)))

-- a test that a function passes at every number is passed by each of its row
pub row-each : {X : Type 0} (test : X → Bool) (f : ℕ → X) (n count : ℕ) → ((m : ℕ) → test (f m) ≡ true) → list_all test (row f n count) ≡ true
row-each test f n zero ok = refl
row-each test f n (suc count) ok = and_from (test (f n)) _ (ok n) (row-each test f (n + 1) count ok)

-- a row of a function that differs at one number, as the row with one set
pub row-set : {X : Type 0} (f g : ℕ → X) (x : X) (n count i : ℕ) → g (n + i) ≡ x → ((m : ℕ) → (m ≡ n + i → ⊥) → g m ≡ f m) → row g n count ≡ set (row f n count) i x
row-set f g x n zero i here there = refl
row-set f g x n (suc count) zero here there =
    let first : g n ≡ x = rw add-zero at here in
    rw (first, row_same g f (n + 1) count (λ m h. there m (λ e. omega arith)))
row-set f g x n (suc count) (suc i) here there =
    let first : g n ≡ f n = there n (λ e. omega arith) in
    let past : n + 1 + i ≡ n + suc i = omega arith in
    rw (first, row-set f g x (n + 1) count i (ap g past ∙ here) (λ m ne. there m (λ e. ne (e ∙ sym past))))

-- two rows added, as the row of the sums
pub plus-row : (f g : ℕ → ℕ) (n count : ℕ) → plus (row f n count) (row g n count) ≡ row (λ m. f m + g m) n count
plus-row f g n zero = refl
plus-row f g n (suc count) = ap (λ ms. (f n + g n) ∷ ms) (plus-row f g (n + 1) count)

-- adding nothing at any place
pub plus_none : (xs : List ℕ) (f : ℕ → ℕ) (n count : ℕ) → length xs ≡ count → ((m : ℕ) → n ≤ m → f m ≡ 0) → plus xs (row f n count) ≡ xs
plus_none [] f n count long none = refl
plus_none (x ∷ xs) f n zero long none = absurd (omega arith)
plus_none (x ∷ xs) f n (suc count) long none =
    rw (none n (omega arith), add-zero, plus_none xs f (n + 1) count (omega arith) (λ m h. none m (omega arith)))

-- adding at one place, as adding a row that is nothing elsewhere
pub plus-at : (xs : List ℕ) (f : ℕ → ℕ) (x n count i : ℕ) → length xs ≡ count → i < count → f (n + i) ≡ x → ((m : ℕ) → (m ≡ n + i → ⊥) → f m ≡ 0) → set xs i (get_or xs i 0 + x) ≡ plus xs (row f n count)
plus-at [] f x n count i long h here there = refl
plus-at (y ∷ xs) f x n zero i long h here there = absurd (omega arith)
plus-at (y ∷ xs) f x n (suc count) zero long h here there =
    let first : f n ≡ x = rw add-zero at here in
    rw (first, plus_none xs f (n + 1) count (omega arith) (λ m k. there m (λ e. omega arith)))
plus-at (y ∷ xs) f x n (suc count) (suc i) long h here there =
    let first : f n ≡ 0 = there n (λ e. omega arith) in
    let past : n + 1 + i ≡ n + suc i = omega arith in
    rw (first, add-zero, plus-at xs f x (n + 1) count i (omega arith) (omega arith) (ap f past ∙ here) (λ m ne. there m (λ e. ne (e ∙ sym past))))

-- adding at the place of one number, as adding a row that is nothing at the others
pub plus_one : (xs : List ℕ) (j x n count i : ℕ) → length xs ≡ count → i < count → n + i ≡ j → set xs i (get_or xs i 0 + x) ≡ plus xs (row (λ m. cond (eqb j m) x 0) n count)
plus_one xs j x n count i long h at =
    plus-at xs (λ m. cond (eqb j m) x 0) x n count i long h
    (cond-true (eqb j (n + i)) x 0 (eq-eqb j (n + i) (sym at)))
    (λ m ne. cond-false (eqb j m) x 0 (ne_eqb j m (λ e. ne (sym (at ∙ e)))))

-- rows added one after the other, as their sum added
pub plus-plus : (xs : List ℕ) (f g : ℕ → ℕ) (n count : ℕ) → plus (plus xs (row f n count)) (row g n count) ≡ plus xs (row (λ m. f m + g m) n count)
plus-plus [] f g n count = refl
plus-plus (x ∷ xs) f g n zero = refl
plus-plus (x ∷ xs) f g n (suc count) =
    let here : x + f n + g n ≡ x + (f n + g n) = omega arith in
    rw (here, plus-plus xs f g (n + 1) count)

-- a row added is as long as what it is added to
pub length-plus : (xs : List ℕ) (f : ℕ → ℕ) (n count : ℕ) → length xs ≡ count → length (plus xs (row f n count)) ≡ count
length-plus [] f n count long = long
length-plus (x ∷ xs) f n zero long = absurd (omega arith)
length-plus (x ∷ xs) f n (suc count) long = ap suc (length-plus xs f (n + 1) count (omega arith))

-- an amount counted only where a test holds is at most the amount
pub where_most : (b : Bool) (n most : ℕ) → n ≤ most → cond b n 0 ≤ most
where_most true n most h = h
where_most false n most h = omega arith

-- an amount counted where two tests hold is counted where the second holds, if the first does
pub where_both : (b t : Bool) (n : ℕ) → cond (b && t) n 0 ≡ cond b (cond t n 0) 0
where_both true t n = refl
where_both false t n = refl

-- adding a row where a test holds, with nothing besides
pub plus_where : (b : Bool) (xs : List ℕ) (f : ℕ → ℕ) (n count : ℕ) → length xs ≡ count → plus xs (row (λ m. cond b (f m) 0 + 0) n count) ≡ cond b (plus xs (row f n count)) xs
plus_where true xs f n count long = ap (plus xs) (row_same (λ m. f m + 0) f n count (λ m h. add-zero (f m)))
plus_where false xs f n count long = plus_none xs (λ m. 0 + 0) n count long (λ m h. refl)
