-- `supply_of`: each package that comes is the next that is taken, and there is room for it.
use Rattle.std.specs.List.{list_all}
use Rattle.std.proofs.Common.{◌≡◌, ℕ, ◌+◌, true, leb, List, length, take, sym, ap, ◌∙◌, subst, add-zero}
use Rattle.std.proofs.Math.Seq.{take-length}
use Rattle.std.proofs.lemmas.List.{length_push}
use Rattle.std.proofs.lemmas.Iterator.Consumers.{YieldsList-turn, YieldsList-end}
use Rattle.clearing.specs.declared.dockets.PricedPackage.{PricedPackage}
use Rattle.clearing.specs.declared.tallies.Tally.{Tally}
use Rattle.clearing.specs.Choices.{taken, supplied, supply}
use Rattle.clearing.specs.Tallies.{tally_of, added, row, plus}
use Rattle.clearing.proofs.Rows.{row_same}
use Rattle.clearing.proofs.Takings.{walk, next-room, next-fits, next-added}
use Rattle.clearing.proofs.tallies.supply_of.Goals as goal

-- what packages supply to each market
abbrev supplies_of : List PricedPackage → List ℕ
supplies_of ps = row (λ m. supply m ps) 1 5

-- a package added to a tally adds its supplies
added-supply : (t : Tally) (p : PricedPackage) → plus t.supply (row (λ m. supplied m p.terms) 1 5) ≡ (added t p).supply
added-supply t p =
    ap (plus t.supply) (row_same (λ m. supplied m p.terms) (λ m. supplied m p.terms + 0) 1 5 (λ m h. sym (add-zero (supplied m p.terms))))

pub add_supply-requires : goal.add_supply-requires
add_supply-requires c =
    let t = YieldsList-turn (walk c.taken-package-items.ensures.ranged c.args.choice c.into_iter-package-iterator.result cc) c.loop-package.yielded _ c.loop-package.yielded_by _ c.next.new.self c.in-Some.package c.in-Some.is c.next.ensures.steps in
    let room = next-room c.taken-package-items.ensures.ranged c.args.choice _ _ t in
    record {
      room = subst (λ (xs : List ℕ). list_all (λ n. leb n 390000000) xs ≡ true) (sym c.loop-package.invariant) room.supply;
      fits = next-fits c.taken-package-items.ensures.ranged c.args.choice _ _ t;
    }

pub loop-package-preserved : goal.loop-package-preserved
loop-package-preserved c =
    let t = YieldsList-turn (walk c.taken-package-items.ensures.ranged c.args.choice c.into_iter-package-iterator.result cc) c.loop-package.yielded _ c.loop-package.yielded_by _ c.next.new.self c.in-Some.package c.in-Some.is c.next.ensures.steps in
    c.add_supply.ensures
    ∙ ap (λ xs. plus xs (row (λ m. supplied m c.in-Some.package.now.terms) 1 5)) c.loop-package.invariant
    ∙ added-supply (tally_of (take (length c.loop-package.yielded) (taken c.args.docket.now.packages c.args.choice))) c.in-Some.package.now
    ∙ ap (λ (t : Tally). t.supply) (next-added c.taken-package-items.ensures.ranged c.args.choice _ _ t)
    ∙ ap (λ n. supplies_of (take n (taken c.args.docket.now.packages c.args.choice))) (sym (length_push c.loop-package.yielded c.in-Some.package))

pub returns : goal.returns
returns c =
    let t = YieldsList-end (walk c.taken-package-items.ensures.ranged c.args.choice c.into_iter-package-iterator.result cc) c.loop-package.yielded _ c.loop-package.yielded_by _ c.next.new.self c.in-None.is c.next.ensures.steps in
    record {
      supply =
          c.loop-package.invariant
          ∙ ap (λ n. supplies_of (take n (taken c.args.docket.now.packages c.args.choice))) t.1
          ∙ ap supplies_of (take-length _);
      ranged = c.taken-package-items.ensures.ranged;
    }
