-- Why the all-in rule is sound: a choice of a block earns no more than its last with filled sales, and costs no less than is counted.
use Rattle.std.specs.Prelude.{◌≡◌, ℕ, ◌*◌, true, List, ℤ, ◌≤ℤ◌, ◌==◌, cond, zero, suc, ◌+◌, ◌-◌, ◌/◌, ◌%◌, ◌^◌, ◌<◌, Bool, false, [], ◌∷◌, take, pos, ◌+ℤ◌, refl}
use Rattle.std.proofs.Common.{le_trans, arith, sym, ap, ap₂, ◌∙◌}
use Rattle.std.proofs.lemmas.Int.{ints, clamps}
use Rattle.std.proofs.lemmas.Nat.{pow_pos}
use Rattle.clearing.specs.declared.dockets.PricedPackage.{PricedPackage}
use Rattle.clearing.specs.Choices.{taken, cost}
use Rattle.clearing.specs.Lawful.{View}
use Rattle.clearing.proofs.Filling.{best-filled, parts_of_one}
use Rattle.clearing.specs.Ranged.{Ranged}
use Rattle.bounds.specs.Blocks.{Span, InDocket, InBlock, Claims, last_of, fixed, free_ones}
use Rattle.bounds.specs.Rules.{all_in, below_zero}
use Rattle.bounds.specs.Laws.Parts.{last_part, lowest, fixed_digits, first_is, free_digits, choice_is}
use Rattle.std.proofs.Math.Nat.{pow-succ'}
use Rattle.std.specs.Int.{int_min}

-- a price, if its package is taken
abbrev pub price_if : Bool → ℤ → ℤ
price_if one price = cond one price (pos 0)

-- what packages cost at least, package by package: the first so many are free, the others are taken as the digits say
abbrev pub least_cost : ℕ → ℕ → List PricedPackage → ℤ
least_cost k digits [] = pos 0
least_cost zero digits (p ∷ ps) = price_if (digits % 2 == 1) p.price +ℤ least_cost zero (digits / 2) ps
least_cost (suc k) digits (p ∷ ps) = int_min p.price (pos 0) +ℤ least_cost k (digits / 2) ps

-- what one package more adds to a cost
cost-next : (one : Bool) (p : PricedPackage) (ps : List PricedPackage) → cost (cond one (p ∷ ps) ps) ≡ price_if one p.price +ℤ cost ps
cost-next true p ps = refl
cost-next false p ps = omega (arith, ints)

-- what is below 0 of a price is no more than counts of it
least-price : (one : Bool) (price : ℤ) → int_min price (pos 0) ≤ℤ price_if one price
least-price true price = omega (arith, ints, clamps)
least-price false price = omega (arith, ints, clamps)

-- the first of three numbers put after the second
turned : (a b c : ℤ) → a +ℤ (b +ℤ c) ≡ b +ℤ (a +ℤ c)
turned a b c = omega (arith, ints)

-- with none free it is the cost
least-whole : (digits : ℕ) (ps : List PricedPackage) → least_cost 0 digits ps ≡ cost (taken ps digits)
least-whole digits [] = refl
least-whole digits (p ∷ ps) =
    ap (λ z. price_if (digits % 2 == 1) p.price +ℤ z) (least-whole (digits / 2) ps)
    ∙ sym (cost-next (digits % 2 == 1) p (taken ps (digits / 2)))

-- with any free it is no more than the cost
least-most : (k digits : ℕ) (ps : List PricedPackage) → least_cost k digits ps ≤ℤ cost (taken ps digits)
least-most k digits [] = omega (arith, ints)
least-most zero digits (p ∷ ps) = omega (arith, ints, least-whole digits (p ∷ ps))
least-most (suc k) digits (p ∷ ps) =
    omega (arith, ints, cost-next (digits % 2 == 1) p (taken ps (digits / 2)), least-price (digits % 2 == 1) p.price, least-most k (digits / 2) ps)

-- it is the cost of what the other digits take, and what is below 0 of the free ones, whatever the free digits are
least-is : (k q r : ℕ) → r < 2 ^ k → (ps : List PricedPackage) → least_cost k (q * 2 ^ k + r) ps ≡ cost (taken ps (q * 2 ^ k + 0)) +ℤ below_zero (take k ps)
least-is zero q r low ps =
    let none : r ≡ 0 = omega arith in
    rw none (omega (arith, ints, least-whole (q * 2 ^ 0 + 0) ps))
least-is (suc k) q r low [] = refl
least-is (suc k) q r low (p ∷ ps) =
    let twice = pow-succ' 2 k in
    let first = lowest q k 0 in
    ap (λ z. int_min p.price (pos 0) +ℤ z) (ap (λ digits. least_cost k digits ps) (lowest q k r).1 ∙ least-is k q (r / 2) (omega arith) ps)
    ∙ turned (int_min p.price (pos 0)) (cost (taken ps (q * 2 ^ k + 0))) (below_zero (take k ps))
    ∙ sym (ap₂ (λ digit digits. cost (cond (digit == 1) (p ∷ taken ps digits) (taken ps digits)) +ℤ below_zero (p ∷ take k ps)) first.0 first.1)

module _ (v : View) (b : Span) (block : InDocket v b) where
  -- what a block of a docket costs at least, by its first choice
  pub least_first : least_cost b.free b.first v.packages ≡ cost (fixed v b) +ℤ below_zero (free_ones v b)
  least_first = rw (first_is v b block) at (least-is b.free (fixed_digits v b block) 0 (pow_pos b.free) v.packages)

  -- each of its choices costs no less
  pub cost-least : (choice : ℕ) → InBlock b choice → (cost (fixed v b) +ℤ below_zero (free_ones v b)) ≤ℤ cost (taken v.packages choice)
  cost-least choice inside =
      let same = least-is b.free (fixed_digits v b block) (choice - b.first) (free_digits v b block choice inside) v.packages in
      omega (arith, ints, rw (choice_is v b block choice inside, first_is v b block) at same, least-most b.free choice v.packages)

module _ (v : View) (ranged : Ranged v) (b : Span) (block : InDocket v b) where
  -- a choice of a block earns no more than the last with filled sales, and costs no less than is counted
  pub all_in-sound : Claims v b (all_in v b)
  all_in-sound choice sales inside lawful =
      let more = last_part v b block choice inside in
      let best = best-filled v (last_of b) ranged.order ranged.bands in
      let income = best.most 1 (omega arith) sales (parts_of_one v.bands sales lawful.within_quantities) (λ m. omega (arith, le_trans (lawful.within_supply m) (more.less _))) in
      omega (arith, ints, income, cost-least v b block choice inside)
