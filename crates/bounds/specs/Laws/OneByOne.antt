-- Why one-by-one is sound: what packages add together is no more than what each adds alone.
use Rattle.std.specs.Prelude.{◌≡◌, ℕ, zero, suc, ◌+◌, ◌-◌, ◌*◌, ◌/◌, ◌%◌, ◌^◌, ◌<◌, ◌≤◌, Bool, true, false, cond, ◌||◌, List, [], ◌∷◌, length, get_or, ◌+ℤ◌, ◌≤ℤ◌, ◌==◌, refl, slice_index_or}
use Rattle.std.proofs.Common.{sym, ap, ◌∙◌, ⊎_elim, add-zero, zero-add, div-add-mod', arith, pow_mono}
use Rattle.std.proofs.Math.Nat.{pow-succ', zero-mod}
use Rattle.std.proofs.Math.Pow.{mod-mod-pow}
use Rattle.std.proofs.lemmas.Nat.{pow_pos}
use Rattle.std.proofs.lemmas.Int.{ints, clamps}
use Rattle.std.proofs.lemmas.Bool.{cases_lt}
use Rattle.clearing.specs.declared.dockets.PricedPackage.{PricedPackage}
use Rattle.clearing.specs.Choices.{taken, total, supplied, supply, cost, has_number}
use Rattle.clearing.specs.Lawful.{View}
use Rattle.clearing.proofs.Diminishing.{income-added}
use Rattle.clearing.proofs.Filling.{ranges_of}
use Rattle.clearing.proofs.Held.{no_package}
use Rattle.clearing.specs.Ranged.{Ranged}
use Rattle.clearing.proofs.Ranged.{filled-most}
use Rattle.bounds.specs.Blocks.{Span, InDocket, Claims}
use Rattle.bounds.specs.Rules.{unlimited, lone_gains, one_by_one}
use Rattle.bounds.specs.Laws.Parts.{lowest, first_part}

-- Packages with one more among them: what it counts and costs is added, and its number.
pub record More (p : PricedPackage) (xs ys : List PricedPackage) : Type 0 where
  pub amount : (f : PricedPackage → ℕ) → total f ys ≡ total f xs + f p
  pub price : cost ys ≡ cost xs +ℤ p.price
  pub among : (n : ℕ) → has_number n ys ≡ p.number == n || has_number n xs

-- as the first of them
more_first : (p : PricedPackage) (xs : List PricedPackage) → More p xs (p ∷ xs)
more_first p xs = record { amount = λ f. omega arith; price = omega (arith, ints); among = λ n. refl }

-- of three tests the first two may change places
either_first : (a b c : Bool) → a || (b || c) ≡ b || (a || c)
either_first true true c = refl
either_first true false c = refl
either_first false true c = refl
either_first false false c = refl

-- or after one that is taken or is not
more_later : (p q : PricedPackage) (xs ys : List PricedPackage) (one : Bool) → More p xs ys → More p (cond one (q ∷ xs) xs) (cond one (q ∷ ys) ys)
more_later p q xs ys true more = record {
  amount = λ f. omega (arith, more.amount f);
  price = omega (arith, ints, more.price);
  among = λ n. ap (λ t. q.number == n || t) (more.among n) ∙ either_first (q.number == n) (p.number == n) (has_number n xs);
}
more_later p q xs ys false more = more

-- a digit that is 0 and becomes 1 is one package more
taken_more : (i q r : ℕ) → r < 2 ^ i → (ps : List PricedPackage) → i < length ps → More (slice_index_or ps i no_package) (taken ps (q * 2 ^ suc i + r)) (taken ps (q * 2 ^ suc i + (r + 2 ^ i)))
taken_more i q r low [] inside = absurd (omega arith)
taken_more zero q r low (p ∷ ps) inside =
    let none : r ≡ 0 = omega arith in
    let before = lowest q 0 0 in
    let after = lowest q 0 1 in
    rw none (rw (before.0, before.1, after.0, after.1) (more_first p (taken ps (q * 2 ^ 0 + 0))))
taken_more (suc i) q r low (p ∷ ps) inside =
    let twice = pow-succ' 2 i in
    let before = lowest q (suc i) r in
    let after = lowest q (suc i) (r + 2 ^ suc i) in
    let digit : (r + 2 ^ suc i) % 2 ≡ r % 2 = omega arith in
    let rest : (r + 2 ^ suc i) / 2 ≡ r / 2 + 2 ^ i = omega arith in
    rw (before.0, before.1, after.0, after.1, digit, rest)
    (more_later _ p _ _ (r % 2 == 1) (taken_more i q (r / 2) (omega arith) ps (omega arith)))

-- what a power of two divides, a smaller one divides
pub divides_less : (n i k : ℕ) → n % 2 ^ k ≡ 0 → i ≤ k → n % 2 ^ i ≡ 0
divides_less n i k divides less =
    let whole : k - i + i ≡ k = omega arith in
    let more : n % 2 ^ (k - i + i) ≡ 0 = rw whole divides in
    sym (mod-mod-pow n (k - i) i) ∙ ap (λ m. m % 2 ^ i) more ∙ zero-mod (2 ^ i)

module _ (v : View) (ranged : Ranged v) (b : Span) (block : InDocket v b) where
  -- what one free package more adds to a choice of the block, by the digits below its own
  one_more : (i r : ℕ) → i < b.free → r < 2 ^ i → More (slice_index_or v.packages i no_package) (taken v.packages (b.first + r)) (taken v.packages (b.first + (r + 2 ^ i)))
  one_more i r free low =
      let q = b.first / 2 ^ suc i in
      let first : q * 2 ^ suc i ≡ b.first = omega (arith, div-add-mod' b.first (2 ^ suc i), divides_less b.first (suc i) b.free block.zeros free) in
      rw first at (taken_more i q r low v.packages (omega (arith, block.few)))

  -- to the first one
  pub alone_more : (i : ℕ) → i < b.free → More (slice_index_or v.packages i no_package) (taken v.packages b.first) (taken v.packages (b.first + 2 ^ i))
  alone_more i free = rw (add-zero b.first, zero-add (2 ^ i)) at (one_more i 0 free (pow_pos i))

  -- it is worth no more to the choice than to the first one, which takes less
  worth_more : (i r : ℕ) → i < b.free → r < 2 ^ i
      → (unlimited v (b.first + (r + 2 ^ i)) +ℤ unlimited v b.first) ≤ℤ (unlimited v (b.first + r) +ℤ unlimited v (b.first + 2 ^ i))
  worth_more i r free low =
      let p = get_or v.packages i no_package in
      let ps = v.packages in
      let added = one_more i r free low in
      let alone = alone_more i free in
      let few : i ≤ b.free = omega arith in
      let less = first_part v b block (b.first + r) (record { from = omega arith; below = omega (arith, low, pow_mono few) }) in
      let income = income-added v.bands ranged.order.numbers ranged.order.ahead (ranges_of v.bands ranged.bands)
      (λ m. supply m (taken ps (b.first + r))) (λ m. supply m (taken ps b.first)) (λ m. supplied m p.terms)
      (λ m. supply m (taken ps (b.first + (r + 2 ^ i)))) (λ m. supply m (taken ps (b.first + 2 ^ i)))
      (λ m. added.amount _) (λ m. alone.amount _) (λ m. less.less _) in
      omega (arith, ints, income, added.price, alone.price)

  -- so a choice is worth no more than the first and what each of its free packages adds to that
  worth-gains : (k r : ℕ) → k ≤ b.free → r < 2 ^ k → unlimited v (b.first + r) ≤ℤ (unlimited v b.first +ℤ lone_gains v b.first k)
  worth-gains zero r few low =
      let none : b.first + r ≡ b.first = omega arith in
      rw none (omega (arith, ints))
  worth-gains (suc k) r few low =
      ⊎_elim
      (λ (h : r < 2 ^ k). omega (arith, ints, clamps, worth-gains k r (omega arith) h))
      (λ (h : 2 ^ k ≤ r).
      let twice = pow-succ' 2 k in
      let rest : r - 2 ^ k < 2 ^ k = omega arith in
      let whole : r - 2 ^ k + 2 ^ k ≡ r = omega arith in
      omega (arith, ints, clamps, worth-gains k (r - 2 ^ k) (omega arith) rest, rw whole at (worth_more k (r - 2 ^ k) few rest)))
      (cases_lt r (2 ^ k))

  -- with any sales
  pub one_by_one-sound : Claims v b (one_by_one v b)
  one_by_one-sound choice sales inside lawful =
      let same : b.first + (choice - b.first) ≡ choice = omega (arith, inside.from) in
      let most = rw same at (worth-gains b.free (choice - b.first) (omega arith) (omega (arith, inside.below, inside.from))) in
      omega (arith, ints, filled-most v ranged choice sales lawful, most)
