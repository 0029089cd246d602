-- Sums over bands, alone and beside a list of sales.
use Rattle.std.proofs.Common.{◌≡◌, ℕ, zero, suc, ◌+◌, ◌*◌, ◌<◌, ◌≤◌, min, Bool, true, false, List, [], ◌∷◌, map, get_or, refl, ⊎_elim, add-zero, arith, cond}
use Rattle.std.specs.List.{AllByRecursion as Every}
use Rattle.std.proofs.lemmas.Bool.{cases_lt}
use Rattle.clearing.specs.declared.dockets.OpenBand.{OpenBand}
use Rattle.clearing.specs.Choices.{total}
use Rattle.clearing.specs.Filling.{PartsWithin}
use Rattle.clearing.specs.Tallies.{row}

module _ {X : Type 0} where
  -- what holds of everything holds of each element
  pub all_of : (P : X → Type 0) → ((x : X) → P x) → (xs : List X) → Every P xs
  all_of P p [] = tt
  all_of P p (x ∷ xs) = (p x, all_of P p xs)

  -- what follows from two facts of each element
  pub all_both : (P Q R : X → Type 0) → ((x : X) → P x → Q x → R x) → (xs : List X) → Every P xs → Every Q xs → Every R xs
  all_both P Q R r [] ps qs = tt
  all_both P Q R r (x ∷ xs) ps qs = (r x ps.0 qs.0, all_both P Q R r xs ps.1 qs.1)

  -- two maps that give the same list give the same of each element
  pub all_maps : (f g : X → ℕ) (xs : List X) → map f xs ≡ map g xs → Every (λ x. f x ≡ g x) xs
  all_maps f g [] e = tt
  all_maps f g (x ∷ xs) e =
      let here : f x ≡ g x = cc in
      let there : map f xs ≡ map g xs = cc in
      (here, all_maps f g xs there)

  -- sums of the same amounts are the same
  pub total-same : (f g : X → ℕ) (xs : List X) → Every (λ x. f x ≡ g x) xs → total f xs ≡ total g xs
  total-same f g [] same = refl
  total-same f g (x ∷ xs) same = omega (arith, same.0, total-same f g xs same.1)

  -- two amounts that together are as much as two others, summed
  pub total-pairs : (f g h k : X → ℕ) (xs : List X) → Every (λ x. f x + g x ≡ h x + k x) xs → total f xs + total g xs ≡ total h xs + total k xs
  total-pairs f g h k [] same = refl
  total-pairs f g h k (x ∷ xs) same = omega (arith, same.0, total-pairs f g h k xs same.1)

  -- a sum of smaller amounts is smaller
  pub total-less : (f g : X → ℕ) (xs : List X) → ((x : X) → f x ≤ g x) → total f xs ≤ total g xs
  total-less f g [] less = omega arith
  total-less f g (x ∷ xs) less = omega (arith, less x, total-less f g xs less)

  -- a sum over what a list is mapped to
  pub total-map : {Y : Type 0} (f : Y → ℕ) (g : X → Y) (xs : List X) → total f (map g xs) ≡ total (λ x. f (g x)) xs
  total-map f g [] = refl
  total-map f g (x ∷ xs) = omega (arith, total-map f g xs)

-- amounts that are the same where a test holds
pub where_same : (t : Bool) (m n : ℕ) → (t ≡ true → m ≡ n) → cond t m 0 ≡ cond t n 0
where_same true m n same = same refl
where_same false m n same = refl

-- at most d times each of two numbers is at most d times the smaller
pub times_least : (d n s q : ℕ) → n ≤ d * s → n ≤ d * q → n ≤ d * min s q
times_least d n s q h k =
    ⊎_elim
    (λ (l : s < q). let least : min s q ≡ s = omega arith in rw least h)
    (λ (l : q ≤ s). let least : min s q ≡ q = omega arith in rw least k)
    (cases_lt s q)

-- what stands at a place of a row
pub row_getD : {X : Type 0} (f : ℕ → X) (n count i : ℕ) (d : X) → i < count → get_or (row f n count) i d ≡ f (n + i)
row_getD f n zero i d h = absurd (omega arith)
row_getD f n (suc count) zero d h = rw add-zero
row_getD f n (suc count) (suc i) d h =
    let past : n + 1 + i ≡ n + suc i = omega arith in
    rw (row_getD f (n + 1) count i d (omega arith), past)

-- the sum of an amount of each band and the sale beside it
abbrev pub over : (OpenBand → ℕ → ℕ) → List OpenBand → List ℕ → ℕ
over f [] ss = 0
over f (b ∷ bs) [] = 0
over f (b ∷ bs) (s ∷ ss) = f b s + over f bs ss

-- beside sales that are made of the bands, it is a sum over the bands
pub over-map : (f : OpenBand → ℕ → ℕ) (g : OpenBand → ℕ) (bs : List OpenBand) → over f bs (map g bs) ≡ total (λ b. f b (g b)) bs
over-map f g [] = refl
over-map f g (b ∷ bs) = omega (arith, over-map f g bs)

-- the sum of nothing is nothing
pub over_none : (f : OpenBand → ℕ → ℕ) (bs : List OpenBand) (ss : List ℕ) → Every (λ b. (s : ℕ) → f b s ≡ 0) bs → over f bs ss ≡ 0
over_none f [] ss none = refl
over_none f (b ∷ bs) [] none = refl
over_none f (b ∷ bs) (s ∷ ss) none = omega (arith, none.0 s, over_none f bs ss none.1)

-- the sum of what is two amounts together is their two sums together
pub over-plus : (f g h : OpenBand → ℕ → ℕ) (bs : List OpenBand) (ss : List ℕ) → Every (λ b. (s : ℕ) → h b s ≡ f b s + g b s) bs → over h bs ss ≡ over f bs ss + over g bs ss
over-plus f g h [] ss parts = refl
over-plus f g h (b ∷ bs) [] parts = refl
over-plus f g h (b ∷ bs) (s ∷ ss) parts = omega (arith, parts.0 s, over-plus f g h bs ss parts.1)

-- what those of the bands that pass a test are sold
abbrev pub sold_where : (OpenBand → Bool) → List OpenBand → List ℕ → ℕ
sold_where test = over (λ b s. cond (test b) s 0)

-- what they would take
abbrev pub wanted : (OpenBand → Bool) → List OpenBand → ℕ
wanted test = total (λ b. cond (test b) b.terms.quantity 0)

-- sales that are each within the quantity, in d-th parts, are together within what is wanted
pub within-wanted : (d : ℕ) (test : OpenBand → Bool) (bs : List OpenBand) (ss : List ℕ) → PartsWithin d bs ss → sold_where test bs ss ≤ d * wanted test bs
within-wanted d test [] [] parts = omega arith
within-wanted d test [] (s ∷ ss) parts = absurd parts
within-wanted d test (b ∷ bs) [] parts = absurd parts
within-wanted d test (b ∷ bs) (s ∷ ss) parts =
    let here : cond (test b) s 0 ≤ d * cond (test b) b.terms.quantity 0 =
    elim (test b) as (λ t. cond t s 0 ≤ d * cond t b.terms.quantity 0) [ true ↦ parts.0 | false ↦ omega arith ] in
    omega (arith, here, within-wanted d test bs ss parts.1)
