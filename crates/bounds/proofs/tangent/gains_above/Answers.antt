-- `gains_above`: at most 40 packages are counted, each of a price in range, and no multipliers make their supplies worth more than there is room for.
use Rattle.std.proofs.Common.{◌≡◌, ℕ, ◌+◌, ◌<◌, List, [], ◌∷◌, ◌++◌, length, get_or, take, pos, ◌+ℤ◌, sym, ap, ◌∙◌, arith}
use Rattle.std.proofs.Math.Seq.{take-length}
use Rattle.std.specs.Int.{int_max}
use Rattle.std.proofs.lemmas.Int.{ints, clamps}
use Rattle.std.proofs.lemmas.List.{length_push, take_more}
use Rattle.std.proofs.lemmas.Iterator.Consumers.{YieldsList-turn, YieldsList-end}
use Rattle.clearing.specs.declared.dockets.PricedPackage.{PricedPackage}
use Rattle.clearing.specs.Choices.{taken}
use Rattle.clearing.specs.Lawful.{View}
use Rattle.clearing.specs.Ranged.{Ranged}
use Rattle.clearing.proofs.Takings.{walk, next-fits, taken-few}
use Rattle.bounds.specs.Multipliers.{Multipliers, gain}
use Rattle.bounds.specs.Rules.{gains_above}
use Rattle.bounds.proofs.tangent.gains_above.Goals as goal

-- with one package more at the end
above-last : (l : Multipliers) (ps : List PricedPackage) (p : PricedPackage) → gains_above l (ps ++ p ∷ []) ≡ gains_above l ps +ℤ int_max (gain l p) (pos 0)
above-last l [] p = omega (arith, ints)
above-last l (q ∷ ps) p = omega (arith, ints, above-last l ps p)

-- with the next one
above-next : (l : Multipliers) (ps : List PricedPackage) (n : ℕ) (p : PricedPackage) → (n < length ps) × (p ≡ get_or ps n p)
    → gains_above l (take (n + 1) ps) ≡ gains_above l (take n ps) +ℤ int_max (gain l p) (pos 0)
above-next l ps n p next =
    ap (gains_above l) (take_more ps n p next.0)
    ∙ above-last l (take n ps) (get_or ps n p)
    ∙ ap (λ q. gains_above l (take n ps) +ℤ int_max (gain l q) (pos 0)) (sym next.1)

-- it is one of at most 40
next-few : {d : View} (ok : Ranged d) (choice n : ℕ) → n < length (taken d.packages choice) → n < 40
next-few {d} ok choice n inside = omega (arith, inside, taken-few d.packages choice, ok.few_packages)

pub gain-requires : goal.gain-requires
gain-requires c =
    let t = YieldsList-turn (walk c.taken-package-items.ensures.ranged c.args.choice c.into_iter-package-iterator.result cc) c.loop-package.yielded _ c.loop-package.yielded_by _ c.next.new.self c.in-Some.package c.in-Some.is c.next.ensures.steps in
    next-fits c.taken-package-items.ensures.ranged c.args.choice _ _ t

pub overflow_add-above : goal.overflow_add-above
overflow_add-above c =
    let t = YieldsList-turn (walk c.taken-package-items.ensures.ranged c.args.choice c.into_iter-package-iterator.result cc) c.loop-package.yielded _ c.loop-package.yielded_by _ c.next.new.self c.in-Some.package c.in-Some.is c.next.ensures.steps in
    omega (arith, ints, clamps, next-few c.taken-package-items.ensures.ranged c.args.choice _ t.0, c.loop-package.invariant.low, c.loop-package.invariant.high, c.gain.ensures.low, c.gain.ensures.high)

pub loop-package-preserved : goal.loop-package-preserved
loop-package-preserved c =
    let t = YieldsList-turn (walk c.taken-package-items.ensures.ranged c.args.choice c.into_iter-package-iterator.result cc) c.loop-package.yielded _ c.loop-package.yielded_by _ c.next.new.self c.in-Some.package c.in-Some.is c.next.ensures.steps in
    let next = above-next c.args.multipliers.now (taken c.args.docket.now.packages c.args.choice) _ c.in-Some.package.now t in
    let few = next-few c.taken-package-items.ensures.ranged c.args.choice _ t.0 in
    rw (length_push c.loop-package.yielded c.in-Some.package) (record {
      counted = omega (arith, ints, clamps, next, c.loop-package.invariant, c.gain.ensures);
      low = omega (arith, ints, clamps, c.loop-package.invariant, c.gain.ensures);
      high = omega (arith, ints, clamps, few, c.loop-package.invariant, c.gain.ensures);
    })

pub returns-clause-value : goal.returns-clause-value
returns-clause-value c =
    let t = YieldsList-end (walk c.taken-package-items.ensures.ranged c.args.choice c.into_iter-package-iterator.result cc) c.loop-package.yielded _ c.loop-package.yielded_by _ c.next.new.self c.in-None.is c.next.ensures.steps in
    c.loop-package.invariant.counted
    ∙ ap (λ n. gains_above c.args.multipliers.now (take n (taken c.args.docket.now.packages c.args.choice))) t.1
    ∙ ap (gains_above c.args.multipliers.now) (take-length _)

pub returns-clause-high : goal.returns-clause-high
returns-clause-high c =
    let t = YieldsList-end (walk c.taken-package-items.ensures.ranged c.args.choice c.into_iter-package-iterator.result cc) c.loop-package.yielded _ c.loop-package.yielded_by _ c.next.new.self c.in-None.is c.next.ensures.steps in
    omega (arith, ints, c.loop-package.invariant, t.1, taken-few c.args.docket.now.packages c.args.choice, c.taken-package-items.ensures.ranged.few_packages)
