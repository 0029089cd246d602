-- `first_outside`: the first false one is at the place that is found.
use Rattle.std.proofs.Common.{◌≡◌, ℕ, zero, suc, ◌+◌, ◌<◌, Bool, true, false, List, [], ◌∷◌, length, refl, sym, ap, ◌∙◌, arith, rules}
use Rattle.std.specs.List.{AllWithin, HoldsAt}
use Rattle.std.proofs.lemmas.Iterator.{IsFirst-from_position, YieldsList-from_slice}
use borrow.Author.Tests.{tests}
use Rattle.offers.specs.Fields.{first_false}
use Rattle.offers.specs.Layouts.{numbered_field}
use Rattle.offers.proofs.Decoding.{numbered_some}
use Rattle.offers.proofs.words.first_outside.Goals as goal

-- where all are true there is no first false one
none_false : (n : ℕ) (bs : List Bool) → AllWithin (λ b. b ≡ true) bs 0 (length bs) → first_false n bs ≡ 0
none_false n [] h = refl
none_false n (b ∷ bs) h = rw (h 0 false (omega arith) (omega arith)) (none_false (n + 1) bs (λ k d low high. h (suc k) d (omega arith) (omega arith)))

-- the first false one is counted from the number of the first
counted : (n i : ℕ) (bs : List Bool) → i < length bs → HoldsAt (λ b. b ≡ false) bs i → AllWithin (λ b. b ≡ true) bs 0 i → first_false n bs ≡ n + i
counted n i [] in_list here before = absurd (omega arith)
counted n zero (b ∷ bs) in_list here before = rw (here false) (omega arith)
counted n (suc i) (b ∷ bs) in_list here before =
    rw (before 0 false (omega arith) (omega arith)) (
    counted (n + 1) i bs (omega arith) (λ d. here d) (λ k d low high. before (suc k) d (omega arith) (omega arith))
    ∙ omega arith)

pub returns-in_err-place : goal.returns-in_err-place
returns-in_err-place c =
    let bs = c.args.in_range.now in
    let first = IsFirst-from_position _ _ _ (λ b. b ≡ false) (λ b. b ≡ true) c.position.ensures.ran (YieldsList-from_slice bs cc) (λ x q k. search (rules, tests)) (λ x q k. search (rules, tests)) in
    let all : AllWithin (λ b. b ≡ true) bs 0 (length bs) = rw c.in_err-place.was at first in
    c.from_residual.ensures ∙ ap numbered_field (sym (none_false 2 bs all))

pub returns : goal.returns
returns c =
    let bs = c.args.in_range.now in
    let first = IsFirst-from_position _ _ _ (λ b. b ≡ false) (λ b. b ≡ true) c.position.ensures.ran (YieldsList-from_slice bs cc) (λ x q k. search (rules, tests)) (λ x q k. search (rules, tests)) in
    let here = rw c.in_ok-place.was at first in
    let number : c.in_ok-place.place + 2 ≡ first_false 2 bs = omega (arith, counted 2 _ bs here.0 here.1 here.2) in
    sym (ap numbered_field (sym number) ∙ numbered_some _ (omega arith))
