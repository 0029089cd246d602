-- What a choice of a block takes: of the free packages what its free digits say, and the fixed ones. Where it is lawful, those of the free are live.
use Rattle.std.specs.Prelude.{◌≡◌, ℕ, zero, suc, ◌+◌, ◌-◌, ◌*◌, ◌/◌, ◌%◌, ◌^◌, ◌<◌, Bool, true, false, cond, List, [], ◌∷◌, ◌++◌, take, drop, ◌==◌, refl}
use Rattle.std.proofs.Common.{sym, ap, ap₂, ◌∙◌, arith}
use Rattle.std.specs.List.{filter, list_all}
use Rattle.std.proofs.Math.Nat.{pow-succ'}
use Rattle.std.proofs.lemmas.Nat.{pow_pos}
use Rattle.std.proofs.lemmas.Bool.{true≢false, and_from, and_parts}
use Rattle.clearing.specs.declared.dockets.PricedPackage.{PricedPackage}
use Rattle.clearing.specs.Choices.{taken}
use Rattle.clearing.specs.Lawful.{View, Lawful}
use Rattle.clearing.specs.Ranged.{Ranged}
use Rattle.bounds.specs.Blocks.{Span, InDocket, InBlock, fixed, possible, free_ones}
use Rattle.bounds.specs.Rules.{joins}
use Rattle.bounds.specs.Laws.Parts.{Part, part_same, part_both, part_next, part_of_part, part_after, lowest, fixed_digits, first_is, free_digits, choice_is}
use Rattle.bounds.specs.Laws.Limits.{part_passed}

-- no digits take nothing
pub taken_none : (ps : List PricedPackage) → taken ps 0 ≡ []
taken_none [] = refl
taken_none (p ∷ ps) = taken_none ps

-- one more before a list, where it is taken, is one more before what the list begins with
cond-before : (one : Bool) (p : PricedPackage) (xs ys : List PricedPackage) → cond one (p ∷ (xs ++ ys)) (xs ++ ys) ≡ cond one (p ∷ xs) xs ++ ys
cond-before true p xs ys = refl
cond-before false p xs ys = refl

-- the lowest digits take of the first packages, the others of the rest
pub taken-splits : (k q r : ℕ) → r < 2 ^ k → (ps : List PricedPackage) → taken ps (q * 2 ^ k + r) ≡ taken (take k ps) r ++ taken (drop k ps) q
taken-splits zero q r low ps =
    let same : q * 2 ^ 0 + r ≡ q = omega arith in
    rw same refl
taken-splits (suc k) q r low [] = refl
taken-splits (suc k) q r low (p ∷ ps) =
    let twice = pow-succ' 2 k in
    let parts = lowest q k r in
    ap₂ (λ digit digits. cond (digit == 1) (p ∷ taken ps digits) (taken ps digits)) parts.0 parts.1
    ∙ ap (λ qs. cond (r % 2 == 1) (p ∷ qs) qs) (taken-splits k q (r / 2) (omega arith) ps)
    ∙ cond-before (r % 2 == 1) p (taken (take k ps) (r / 2)) (taken (drop k ps) q)

-- packages that stand beside others in a whole pass a test that each passes which could stand there with them
each-beside : (test : PricedPackage → Bool) (xs ys whole : List PricedPackage) → ((p : PricedPackage) → Part (p ∷ ys) whole → test p ≡ true)
    → Part (xs ++ ys) whole → list_all test xs ≡ true
each-beside test [] ys whole passes part = refl
each-beside test (x ∷ xs) ys whole passes part =
    let rest = part_after xs ys in
    let with_one = part_of_part (x ∷ ys) (x ∷ (xs ++ ys)) whole (part_both x ys (xs ++ ys) rest) part in
    let others = part_of_part (xs ++ ys) (x ∷ (xs ++ ys)) whole (part_after (x ∷ []) (xs ++ ys)) part in
    and_from _ _ (passes x with_one) (each-beside test xs ys whole passes others)

-- where one more passes if it is taken
pub each-next : (test : PricedPackage → Bool) (one : Bool) (p : PricedPackage) (xs : List PricedPackage) → list_all test (cond one (p ∷ xs) xs) ≡ true
    → (one ≡ true → test p ≡ true) × (list_all test xs ≡ true)
each-next test true p xs ok =
    let parts = and_parts (test p) (list_all test xs) ok in
    ((λ _. parts.0), parts.1)
each-next test false p xs ok = ((λ is. absurd (true≢false (sym is))), ok)

-- what is taken, if all of it passes, is part of all that pass
pub taken-kept : (test : PricedPackage → Bool) (ps : List PricedPackage) (r : ℕ) → list_all test (taken ps r) ≡ true → Part (taken ps r) (filter test ps)
taken-kept test [] r ok = part_same []
taken-kept test (p ∷ ps) r ok =
    let parts = each-next test (r % 2 == 1) p (taken ps (r / 2)) ok in
    part_next p _ _ (taken-kept test ps (r / 2) parts.1) (r % 2 == 1) (test p) parts.0

module _ (v : View) (b : Span) (block : InDocket v b) where
  -- the first choice takes what the digits that are not free do
  fixed-is : fixed v b ≡ taken (drop b.free v.packages) (fixed_digits v b block)
  fixed-is =
      let splits = taken-splits b.free (fixed_digits v b block) 0 (pow_pos b.free) v.packages in
      ap (taken v.packages) (sym (first_is v b block))
      ∙ splits
      ∙ ap (λ xs. xs ++ taken (drop b.free v.packages) (fixed_digits v b block)) (taken_none (take b.free v.packages))

  -- so any takes that, and what its free digits do
  pub choice-splits : (choice : ℕ) → InBlock b choice → taken v.packages choice ≡ taken (free_ones v b) (choice - b.first) ++ fixed v b
  choice-splits choice inside =
      ap (taken v.packages) (sym (choice_is v b block choice inside))
      ∙ taken-splits b.free (fixed_digits v b block) (choice - b.first) (free_digits v b block choice inside) v.packages
      ∙ ap (λ ys. taken (free_ones v b) (choice - b.first) ++ ys) (sym fixed-is)

  -- a lawful choice takes only live packages of the free ones
  pub taken-live : Ranged v → (choice : ℕ) (sales : List ℕ) → InBlock b choice → Lawful v choice sales
      → list_all (joins v (fixed v b) (possible v b)) (taken (free_ones v b) (choice - b.first)) ≡ true
  taken-live ranged choice sales inside lawful =
      each-beside (joins v (fixed v b) (possible v b)) (taken (free_ones v b) (choice - b.first)) (fixed v b) (taken v.packages choice)
      (λ p part. part_passed v ranged b block choice sales inside lawful (p ∷ fixed v b) part)
      (rw (choice-splits choice inside) (part_same _))
