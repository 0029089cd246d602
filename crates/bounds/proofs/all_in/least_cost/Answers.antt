-- `least_cost`: at most 40 packages are counted in each loop, each of a price in range.
use Rattle.std.specs.List.{list_all}
use Rattle.std.proofs.Common.{◌≡◌, ℕ, ◌+◌, ◌*◌, ◌<◌, true, List, [], ◌∷◌, ◌++◌, length, get_or, take, pos, negsuc, ◌+ℤ◌, ◌≤ℤ◌, sym, ap, ◌∙◌, arith, length-take}
use Rattle.std.proofs.Math.Seq.{take-length}
use Rattle.std.specs.Int.{int_min}
use Rattle.std.proofs.lemmas.Int.{ints, clamps}
use Rattle.std.proofs.lemmas.Bool.{and_parts}
use Rattle.std.proofs.lemmas.List.{length_push, take_more}
use Rattle.std.proofs.lemmas.Iterator.{YieldsList-from_slice, YieldsList-from_take}
use Rattle.std.proofs.lemmas.Iterator.Consumers.{YieldsList-turn, YieldsList-end}
use Rattle.clearing.specs.declared.dockets.PricedPackage.{PricedPackage}
use Rattle.clearing.specs.Choices.{taken, cost}
use Rattle.clearing.specs.Lawful.{View}
use Rattle.clearing.specs.Ranged.{Ranged}
use Rattle.clearing.specs.Ranges.{package_fits}
use Rattle.clearing.proofs.Fits.{each_take, priced_ranges}
use Rattle.clearing.proofs.Takings.{walk, next-room, next-fits, next-added, taken-priced}
use Rattle.bounds.specs.Blocks.{Span, fixed, free_ones}
use Rattle.bounds.specs.Rules.{below_zero}
use Rattle.bounds.proofs.all_in.least_cost.Goals as goal

-- one package more at the end counts what is below 0 of its price
below_zero-last : (ps : List PricedPackage) (p : PricedPackage) → below_zero (ps ++ p ∷ []) ≡ below_zero ps +ℤ int_min p.price (pos 0)
below_zero-last [] p = omega (arith, ints)
below_zero-last (q ∷ ps) p = omega (arith, ints, below_zero-last ps p)

-- packages in range count no more than the greatest price for each
below_zero-between : (ps : List PricedPackage) → list_all package_fits ps ≡ true → (pos 0 ≤ℤ (below_zero ps +ℤ pos (20000000000 * length ps))) × (below_zero ps ≤ℤ pos 0)
below_zero-between [] ok = (omega (arith, ints), omega (arith, ints))
below_zero-between (p ∷ ps) ok =
    let parts = and_parts (package_fits p) (list_all package_fits ps) ok in
    let r = priced_ranges p parts.0 in
    let rest = below_zero-between ps parts.1 in
    (omega (arith, ints, clamps), omega (arith, ints, clamps))

-- the next of the taken packages adds its price, and there is room for it
taken-next : {d : View} (ok : Ranged d) (choice n : ℕ) (p : PricedPackage)
    → (n < length (taken d.packages choice)) × (p ≡ get_or (taken d.packages choice) n p)
    → (cost (take (n + 1) (taken d.packages choice)) ≡ cost (take n (taken d.packages choice)) +ℤ p.price)
    × (negsuc 799999999999 ≤ℤ cost (take (n + 1) (taken d.packages choice)))
    × (cost (take (n + 1) (taken d.packages choice)) ≤ℤ pos 800000000000)
taken-next {d} ok choice n p next =
    let room = next-room ok choice n p next in
    let r = priced_ranges p (next-fits ok choice n p next) in
    let more = sym (ap (λ t. t.cost) (next-added ok choice n p next)) in
    (more, omega (arith, ints, more), omega (arith, ints, more))

-- the next of some packages counts what is below 0 of its price
free-next : (ps : List PricedPackage) (n : ℕ) (p : PricedPackage) → (n < length ps) × (p ≡ get_or ps n p)
    → below_zero (take (n + 1) ps) ≡ below_zero (take n ps) +ℤ int_min p.price (pos 0)
free-next ps n p next =
    ap below_zero (take_more ps n p next.0)
    ∙ below_zero-last (take n ps) (get_or ps n p)
    ∙ ap (λ q. below_zero (take n ps) +ℤ int_min q.price (pos 0)) (sym next.1)

-- the first so many of the free packages count no more than 40 of the greatest price
free-between : {d : View} (ok : Ranged d) (b : Span) (n : ℕ) → (negsuc 799999999999 ≤ℤ below_zero (take n (free_ones d b))) × (below_zero (take n (free_ones d b)) ≤ℤ pos 0)
free-between {d} ok b n =
    let all = free_ones d b in
    let between = below_zero-between (take n all) (each_take package_fits n all (each_take package_fits b.free d.packages ok.packages)) in
    (omega (arith, ints, between.0, length-take n all, length-take b.free d.packages, ok.few_packages), between.1)

pub overflow_add-cost : goal.overflow_add-cost
overflow_add-cost c =
    let road = walk {d = c.args.docket.now} c.taken-package-items.ensures.ranged c.args.block.first c.into_iter-package-iterator.result cc in
    let t = YieldsList-turn road c.loop-package.yielded _ c.loop-package.yielded_by _ c.next.new.self c.in-Some.package c.in-Some.is c.next.ensures.steps in
    let next = taken-next c.taken-package-items.ensures.ranged c.args.block.first _ c.in-Some.package.now t in
    omega (arith, ints, next.0, next.1, next.2)

pub loop-package-preserved : goal.loop-package-preserved
loop-package-preserved c =
    let road = walk {d = c.args.docket.now} c.taken-package-items.ensures.ranged c.args.block.first c.into_iter-package-iterator.result cc in
    let t = YieldsList-turn road c.loop-package.yielded _ c.loop-package.yielded_by _ c.next.new.self c.in-Some.package c.in-Some.is c.next.ensures.steps in
    let next = taken-next c.taken-package-items.ensures.ranged c.args.block.first _ c.in-Some.package.now t in
    rw (length_push c.loop-package.yielded c.in-Some.package) (omega (arith, ints, next.0, next.1, next.2))

pub loop-free-init : goal.loop-free-init
loop-free-init c =
    let all = fixed c.args.docket.now c.args.block in
    let t = YieldsList-end (walk {d = c.args.docket.now} c.taken-package-items.ensures.ranged c.args.block.first c.into_iter-package-iterator.result (rw (← ap (λ (b : Span). b.first) c.block.view_is) cc)) c.loop-package.yielded _ c.loop-package.yielded_by _ c.next.new.self c.in-None.is c.next.ensures.steps in
    omega (arith, ints, c.loop-package.invariant, ap (λ n. cost (take n all)) t.1, ap cost (take-length all))

pub overflow_add-cost-in-loop-free : goal.overflow_add-cost-in-loop-free
overflow_add-cost-in-loop-free c =
    let d = c.args.docket.now in
    let b = c.args.block in
    let road = YieldsList-from_take {s = c.into_iter-free-iterator.result} b.free (YieldsList-from_slice d.packages (rw (← c.docket.view_is) cc)) cc in
    let t = YieldsList-turn road c.loop-free.yielded _ c.loop-free.yielded_by _ c.next-in-loop-free.new.self c.in-Some-free.free c.in-Some-free.is c.next-in-loop-free.ensures.steps in
    let next = free-next (free_ones d b) _ c.in-Some-free.free.now t in
    let between = free-between c.taken-package-items.ensures.ranged b (length c.loop-free.yielded + 1) in
    let priced = taken-priced c.taken-package-items.ensures.ranged b.first in
    omega (arith, ints, clamps)

pub loop-free-preserved : goal.loop-free-preserved
loop-free-preserved c =
    let d = c.args.docket.now in
    let b = c.args.block in
    let road = YieldsList-from_take {s = c.into_iter-free-iterator.result} b.free (YieldsList-from_slice d.packages (rw (← c.docket.view_is) cc)) cc in
    let t = YieldsList-turn road c.loop-free.yielded _ c.loop-free.yielded_by _ c.next-in-loop-free.new.self c.in-Some-free.free c.in-Some-free.is c.next-in-loop-free.ensures.steps in
    let next = free-next (free_ones d b) _ c.in-Some-free.free.now t in
    let between = free-between c.taken-package-items.ensures.ranged b (length c.loop-free.yielded + 1) in
    let priced = taken-priced c.taken-package-items.ensures.ranged b.first in
    rw (length_push c.loop-free.yielded c.in-Some-free.free) (omega (arith, ints, clamps))

pub returns-clause-low : goal.returns-clause-low
returns-clause-low c =
    let between = free-between c.taken-package-items.ensures.ranged c.args.block (length c.loop-free.yielded) in
    let priced = taken-priced c.taken-package-items.ensures.ranged c.args.block.first in
    omega (arith, ints, c.loop-free.invariant)

pub returns-clause-high : goal.returns-clause-high
returns-clause-high c =
    let between = free-between c.taken-package-items.ensures.ranged c.args.block (length c.loop-free.yielded) in
    let priced = taken-priced c.taken-package-items.ensures.ranged c.args.block.first in
    omega (arith, ints, c.loop-free.invariant)
