-- `gainful_choice`: each turn asks of one package more whether it is taken and worth more than its price, and if so gives it its digit.
use Rattle.std.proofs.Common.{◌≡◌, ℕ, ◌+◌, ◌*◌, ◌/◌, ◌%◌, ◌^◌, ◌<◌, Bool, true, false, cond, ◌&&◌, eqb, List, [], ◌∷◌, ◌++◌, length, get_or, take, pos, w64, to_z, of_z, sym, refl, ap, ◌∙◌, add-one, subst, arith}
use Rattle.std.specs.Prelude.{int_lt}
use Rattle.std.specs.List.{filter}
use Rattle.std.proofs.Math.Nat.{pow-succ'}
use Rattle.std.proofs.lemmas.Int.{ints}
use Rattle.std.proofs.lemmas.Nat.{one_shl}
use Rattle.std.proofs.lemmas.Bool.{and_from, and_left, and_right, eq-eqb, ne_eqb}
use Rattle.std.proofs.lemmas.List.{append-nil}
use Rattle.std.proofs.lemmas.List.Elements.{filter-append}
use Rattle.clearing.specs.declared.dockets.PricedPackage.{PricedPackage}
use Rattle.clearing.specs.Choices.{taken}
use Rattle.clearing.specs.Ranged.{Ranged}
use Rattle.clearing.proofs.Held.{no_package}
use Rattle.bounds.specs.Multipliers.{Multipliers, gain, gainful}
use Rattle.bounds.specs.Laws.Splits.{taken_none}
use Rattle.bounds.proofs.Digits.{taken_with, taken_next, halved_more}
use Rattle.bounds.proofs.multipliers.gainful_choice.Goals as goal
use Rattle.bounds.proofs.multipliers.gainful_choice.Goals.{then-digits-eq1+then-gain-gt0, else-digits-eq1, else-digits-eq1-via-then-digits-eq1+else-gain-gt0, else-digits-eq1-via-else-digits-eq1}

-- of one package that is there or not, what is kept
kept_if : (test : PricedPackage → Bool) (there : Bool) (p : PricedPackage) → filter test (cond there (p ∷ []) []) ≡ cond (there && test p) (p ∷ []) []
kept_if test true p = refl
kept_if test false p = refl

module _ (l : Multipliers) (ps : List PricedPackage) (choice i : ℕ) where
  -- the package at the place
  abbrev here : PricedPackage
  here = get_or ps i no_package

  -- is it taken, and worth more than its price?
  abbrev gains : Bool
  gains = eqb (choice / 2 ^ i % 2) 1 && int_lt (pos 0) (gain l here)

  -- those that gain with it
  gainful_more : i < length ps → gainful l (taken (take (i + 1) ps) choice) ≡ gainful l (taken (take i ps) choice) ++ cond gains (here ∷ []) []
  gainful_more inside =
      let test = λ (p : PricedPackage). int_lt (pos 0) (gain l p) in
      let one = cond (eqb (choice / 2 ^ i % 2) 1) (here ∷ []) [] in
      ap (gainful l) (taken_next ps choice i no_package inside)
      ∙ filter-append test (taken (take i ps) choice) one
      ∙ ap (λ qs. gainful l (taken (take i ps) choice) ++ qs) (kept_if test (eqb (choice / 2 ^ i % 2) 1) here)

  module _ (inside : i < length ps) (so_far : ℕ) (low : so_far < 2 ^ i) (is : taken ps so_far ≡ gainful l (taken (take i ps) choice)) where
    -- where it does, its digit takes it
    gains-yes : gains ≡ true → taken ps (so_far + 2 ^ i) ≡ gainful l (taken (take (i + 1) ps) choice)
    gains-yes so =
        taken_with ps i so_far low no_package inside
        ∙ ap (λ qs. qs ++ here ∷ []) is
        ∙ sym (gainful_more inside ∙ ap (λ b. gainful l (taken (take i ps) choice) ++ cond b (here ∷ []) []) so)

    -- and where it does not, nothing changes
    gains-no : gains ≡ false → taken ps so_far ≡ gainful l (taken (take (i + 1) ps) choice)
    gains-no not =
        is ∙ sym (gainful_more inside ∙ ap (λ b. gainful l (taken (take i ps) choice) ++ cond b (here ∷ []) []) not ∙ append-nil _)

pub loop-place-init : goal.loop-place-init
loop-place-init c = record { bound = omega arith; rest = omega arith; value = taken_none c.args.docket.now.packages }

pub loop-place-preserved : goal.loop-place-preserved
loop-place-preserved c =
    let d = c.args.docket.now in
    let l = c.args.multipliers.now in
    let choice = c.args.choice in
    let ps = d.packages in
    let held = c.as_slice-package-items.ensures.value ∙ ap (λ v. v.packages) c.docket.view_is in
    let i = c.loop-place.place in
    let so_far = c.loop-place.gainful in
    let before = c.loop-place.invariant in
    let inside : i < length ps = omega (arith, c.loop-place-test.true, ap length held) in
    let small : i < 64 = omega (arith, inside, (subst Ranged c.docket.view_is c.docket.invariant).few_packages) in
    let shl = one_shl i 64 small in
    let next : 2 ^ (i + 1) ≡ 2 * 2 ^ i = rw (add-one i) (pow-succ' 2 i) in
    let rest = ap (λ n. n / 2) before.rest ∙ sym (halved_more choice i) in
    let digit = ap (λ n. n % 2) before.rest in
    let same = ap (λ qs. gain l (get_or qs i no_package)) held in
    elim c.if-digits-eq1.branch [
      | then-digits-eq1+then-gain-gt0 w ↦
          let sum : c.if-digits-eq1.gainful ≡ so_far + 2 ^ i = omega (arith, w.gainful-is, shl) in
          let stored : to_z w64 (of_z w64 w.gain.result) ≡ w.gain.result = omega (arith, ints, w.gain.ensures.low, w.gain.ensures.high) in
          let above = ap (int_lt (pos 0)) (sym same ∙ sym w.gain.ensures.value ∙ sym stored) ∙ w.if-gain-gt0.true in
          record {
            bound = omega (arith, sum, next, before.bound);
            rest = rest;
            value = ap (taken ps) sum ∙ gains-yes l ps choice i inside so_far before.bound before.value (and_from _ _ (eq-eqb _ 1 (sym digit ∙ w.if-digits-eq1.true)) above);
          }
      | else-digits-eq1 w ↦
          let no : gains l ps choice i ≡ false =
          elim w.else-digits-eq1.branch [
            | else-digits-eq1-via-then-digits-eq1+else-gain-gt0 w' ↦
                let stored : to_z w64 (of_z w64 w'.gain.result) ≡ w'.gain.result = omega (arith, ints, w'.gain.ensures.low, w'.gain.ensures.high) in
                and_right (eqb (choice / 2 ^ i % 2) 1) _ (ap (int_lt (pos 0)) (sym same ∙ sym w'.gain.ensures.value ∙ sym stored) ∙ w'.if-gain-gt0.false)
            | else-digits-eq1-via-else-digits-eq1 w' ↦
                and_left (eqb (choice / 2 ^ i % 2) 1) _ (ne_eqb _ 1 (λ e. w'.if-digits-eq1.false (digit ∙ e)))
          ] in
          record {
            bound = omega (arith, w.gainful-is, next, before.bound);
            rest = rest;
            value = ap (taken ps) w.gainful-is ∙ gains-no l ps choice i inside so_far before.bound before.value no;
          }
    ]
