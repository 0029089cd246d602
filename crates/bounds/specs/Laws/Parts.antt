-- What the choices of a block take: each all that the first takes, the last all that any takes.
use Rattle.std.specs.Prelude.{◌≡◌, ℕ, zero, suc, ◌+◌, ◌-◌, ◌*◌, ◌/◌, ◌%◌, ◌^◌, ◌<◌, ◌≤◌, Bool, true, false, cond, ◌⊎◌, List, [], ◌∷◌, ◌++◌, ◌==◌, refl}
use Rattle.std.proofs.Common.{le_trans, sym, ap, ◌∙◌, inl, inr, ⊎_elim, mul_left_comm, div-add-mod', arith}
use Rattle.std.proofs.Math.Nat.{pow-succ'}
use Rattle.std.proofs.lemmas.Nat.{pow_pos}
use Rattle.std.proofs.lemmas.Bool.{true≢false, or_cases, or_left, or_right, eqb-true, eq-eqb}
use Rattle.clearing.specs.declared.dockets.PricedPackage.{PricedPackage}
use Rattle.clearing.specs.Choices.{taken, total, has_number}
use Rattle.clearing.specs.Lawful.{View}
use Rattle.bounds.specs.Blocks.{Span, InDocket, InBlock, last_of, fixed, possible}

-- Packages that are part of others: no amount comes to more over them, and each is among the others.
pub record Part (xs ys : List PricedPackage) : Type 0 where
  pub less : (f : PricedPackage → ℕ) → total f xs ≤ total f ys
  pub among : (n : ℕ) → has_number n xs ≡ true → has_number n ys ≡ true

-- packages are part of themselves
pub part_same : (xs : List PricedPackage) → Part xs xs
part_same xs = record { less = λ f. omega arith; among = λ n has. has }

module _ (p : PricedPackage) (xs ys : List PricedPackage) (part : Part xs ys) where
  -- of one more
  part_more : Part xs (p ∷ ys)
  part_more = record {
    less = λ f. omega (arith, part.less f);
    among = λ n has. or_right (p.number == n) (has_number n ys) (part.among n has);
  }

  -- and so with the same one more
  pub part_both : Part (p ∷ xs) (p ∷ ys)
  part_both = record {
    less = λ f. omega (arith, part.less f);
    among = λ n has.
        ⊎_elim (or_left (p.number == n) (has_number n ys))
        (λ rest. or_right (p.number == n) (has_number n ys) (part.among n rest))
        (or_cases (p.number == n) (has_number n xs) has);
  }

  -- and with one more to each that takes it, if it is taken by the others where by these
  pub part_next : (one other : Bool) → (one ≡ true → other ≡ true) → Part (cond one (p ∷ xs) xs) (cond other (p ∷ ys) ys)
  part_next true true so = part_both
  part_next true false so = absurd (true≢false (sym (so refl)))
  part_next false true so = part_more
  part_next false false so = part

-- what is part of a part is part of the whole
pub part_of_part : (xs ys zs : List PricedPackage) → Part xs ys → Part ys zs → Part xs zs
part_of_part xs ys zs one other = record {
  less = λ f. le_trans (one.less f) (other.less f);
  among = λ n has. other.among n (one.among n has);
}

-- packages are part of themselves with others before them
pub part_after : (xs ys : List PricedPackage) → Part ys (xs ++ ys)
part_after [] ys = part_same ys
part_after (x ∷ xs) ys = part_more x ys (xs ++ ys) (part_after xs ys)

-- what the lowest digit of a choice is, and the choice without it, with one free digit more than so many
pub lowest : (q k r : ℕ) → ((q * 2 ^ suc k + r) % 2 ≡ r % 2) × ((q * 2 ^ suc k + r) / 2 ≡ q * 2 ^ k + r / 2)
lowest q k r =
    let twice : q * 2 ^ suc k ≡ 2 * (q * 2 ^ k) = ap (λ n. q * n) (pow-succ' 2 k) ∙ mul_left_comm q 2 (2 ^ k) in
    (omega arith, omega arith)

-- free digits that are all 0 are part of any, and any of those that are all 1
taken_part : (k q r s : ℕ) → r < 2 ^ k → s < 2 ^ k → (r ≡ 0) ⊎ (s + 1 ≡ 2 ^ k) → (ps : List PricedPackage) → Part (taken ps (q * 2 ^ k + r)) (taken ps (q * 2 ^ k + s))
taken_part k q r s low high ends [] = part_same []
taken_part zero q r s low high ends (p ∷ ps) =
    let same : r ≡ s = omega arith in
    rw same (part_same _)
taken_part (suc k) q r s low high ends (p ∷ ps) =
    let twice = pow-succ' 2 k in
    let halves : (r / 2 ≡ 0) ⊎ (s / 2 + 1 ≡ 2 ^ k) = ⊎_elim (λ e. inl (omega arith)) (λ e. inr (omega arith)) ends in
    let digit : r % 2 ≡ 1 → s % 2 ≡ 1 = λ one. ⊎_elim (λ e. absurd (omega arith)) (λ e. omega arith) ends in
    let one = lowest q k r in
    let other = lowest q k s in
    rw (one.0, one.1, other.0, other.1)
    (part_next p _ _ (taken_part k q (r / 2) (s / 2) (omega arith) (omega arith) halves ps) _ _
    (λ e. eq-eqb (s % 2) 1 (digit (eqb-true (r % 2) 1 e))))

module _ (v : View) (b : Span) (block : InDocket v b) where
  -- the digits of a block that are not free
  abbrev pub fixed_digits : ℕ
  fixed_digits = b.first / 2 ^ b.free

  -- its first choice is those and a 0 for each free digit
  pub first_is : fixed_digits * 2 ^ b.free + 0 ≡ b.first
  first_is = omega (arith, div-add-mod' b.first (2 ^ b.free), block.zeros)

  -- its last has a 1 for each
  pub last_is : fixed_digits * 2 ^ b.free + (2 ^ b.free - 1) ≡ last_of b
  last_is = omega (arith, first_is)

  module _ (choice : ℕ) (inside : InBlock b choice) where
    -- the free digits of a choice
    pub free_digits : choice - b.first < 2 ^ b.free
    free_digits = omega (arith, inside.below, inside.from, pow_pos b.free)

    -- any choice of it is those that are not free and any others
    pub choice_is : fixed_digits * 2 ^ b.free + (choice - b.first) ≡ choice
    choice_is = omega (arith, first_is, inside.from)

    -- it takes what the first takes
    pub first_part : Part (fixed v b) (taken v.packages choice)
    first_part =
        rw (first_is, choice_is) at (taken_part b.free fixed_digits 0 (choice - b.first) (pow_pos b.free) free_digits (inl refl) v.packages)

    -- and the last takes what it takes
    pub last_part : Part (taken v.packages choice) (possible v b)
    last_part =
        let some = pow_pos b.free in
        rw (choice_is, last_is) at (taken_part b.free fixed_digits (choice - b.first) (2 ^ b.free - 1) free_digits (omega arith) (inr (omega arith)) v.packages)
