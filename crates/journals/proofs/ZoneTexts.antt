-- Reading signed numbers one after another.
use Rattle.std.proofs.Common.{◌≡◌, ℕ, ◌+◌, ◌-◌, ◌<◌, ◌≤◌, suc, length, take, set, List, [], ◌∷◌, ◌++◌, ℤ, Ok, Err, refl, sym, ap, ◌∙◌, append_assoc, arith}
use Rattle.std.proofs.lemmas.List.{append-nil, take_all, take_more_set}
use Rattle.journals.specs.declared.wrongs.Wrong.{Wrong}
use Rattle.journals.specs.Readers.{Reading, signed_at}
use Rattle.journals.specs.Stacks.{signeds_at}
use Rattle.journals.specs.Wrongs.{◌>>=◌}

-- numbers that were read before others
abbrev pub after : List ℤ → Reading (List ℤ) → Reading (List ℤ)
after zs (Ok read) = Ok (zs ++ read.0, read.1)
after zs (Err wrong) = Err wrong

after-none : (reading : Reading (List ℤ)) → after [] reading ≡ reading
after-none (Ok read) = refl
after-none (Err wrong) = refl

-- numbers before numbers are numbers
after-cons : (zs : List ℤ) (z : ℤ) (reading : Reading (List ℤ)) → after zs (reading >>= λ read. Ok (z ∷ read.0, read.1)) ≡ after (zs ++ z ∷ []) reading
after-cons zs z (Ok read) = ap (λ all. Ok (all, read.1)) (sym (append_assoc zs (z ∷ []) read.0))
after-cons zs z (Err wrong) = refl

-- one more of them was read
one_more : (n : ℕ) (zs : List ℤ) (words : List (List ℕ)) (z : ℤ) (rest : List (List ℕ)) → signed_at words ≡ Ok (z, rest) → after zs (signeds_at (suc n) words) ≡ after (zs ++ z ∷ []) (signeds_at n rest)
unfolding signeds_at
one_more n zs words z rest read = rw read (after-cons zs z (signeds_at n rest))

-- or it is wrong
one_wrong : (n : ℕ) (zs : List ℤ) (words : List (List ℕ)) (wrong : Wrong) → signed_at words ≡ Err wrong → after zs (signeds_at (suc n) words) ≡ Err wrong
unfolding signeds_at
one_wrong n zs words wrong read = rw read

-- in an array of so many numbers, of which i were read
pub zones_more : (n : ℕ) (ns : List ℤ) (i : ℕ) (words : List (List ℕ)) (z : ℤ) (rest : List (List ℕ)) → length ns ≡ n → i < n → signed_at words ≡ Ok (z, rest) → after (take (i + 1) (set ns i z)) (signeds_at (n - (i + 1)) rest) ≡ after (take i ns) (signeds_at (n - i) words)
zones_more n ns i words z rest long within read =
    let left : n - i ≡ suc (n - (i + 1)) = omega arith in
    ap (λ zs. after zs (signeds_at (n - (i + 1)) rest)) (take_more_set ns i z (omega arith))
    ∙ sym (ap (λ k. after (take i ns) (signeds_at k words)) left ∙ one_more (n - (i + 1)) (take i ns) words z rest read)

pub zones_wrong : (n : ℕ) (ns : List ℤ) (i : ℕ) (words : List (List ℕ)) (wrong : Wrong) → i < n → signed_at words ≡ Err wrong → after (take i ns) (signeds_at (n - i) words) ≡ Err wrong
zones_wrong n ns i words wrong within read =
    let left : n - i ≡ suc (n - (i + 1)) = omega arith in
    ap (λ k. after (take i ns) (signeds_at k words)) left ∙ one_wrong (n - (i + 1)) (take i ns) words wrong read

-- before the first and after the last
pub zones_none : (n : ℕ) (ns : List ℤ) (words : List (List ℕ)) → after (take 0 ns) (signeds_at (n - 0) words) ≡ signeds_at n words
zones_none n ns words = after-none (signeds_at (n - 0) words) ∙ ap (λ k. signeds_at k words) (omega arith)

pub zones_all : (n : ℕ) (ns : List ℤ) (i : ℕ) (words : List (List ℕ)) → length ns ≡ n → n ≤ i → after (take i ns) (signeds_at (n - i) words) ≡ Ok (ns, words)
unfolding signeds_at
zones_all n ns i words long past =
    let none : n - i ≡ 0 = omega arith in
    ap (λ k. after (take i ns) (signeds_at k words)) none
    ∙ ap (λ zs. Ok (zs, words)) (append-nil (take i ns) ∙ take_all i ns (omega arith))
