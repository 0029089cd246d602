-- `of`: each package that comes is the next that is taken, and there is room for it.
use Rattle.std.proofs.Common.{take, sym, ap, ◌∙◌, subst}
use Rattle.std.proofs.Math.Seq.{take-length}
use Rattle.std.proofs.lemmas.List.{length_push}
use Rattle.std.proofs.lemmas.Iterator.Consumers.{YieldsList-turn, YieldsList-end}
use Rattle.clearing.specs.Choices.{taken}
use Rattle.clearing.specs.Tallies.{Room, tally_of, added}
use Rattle.clearing.proofs.Takings.{walk, next-room, next-fits, next-added}
use Rattle.clearing.proofs.tallies.Tally.new.Goals as goal

pub add-requires : goal.add-requires
add-requires c =
    let t = YieldsList-turn (walk c.taken-package-items.ensures.ranged c.args.choice c.into_iter-package-iterator.result cc) c.loop-package.yielded _ c.loop-package.yielded_by _ c.next.new.self c.in-Some.package c.in-Some.is c.next.ensures.steps in
    record {
      room = subst Room (sym c.loop-package.invariant) (next-room c.taken-package-items.ensures.ranged c.args.choice _ _ t);
      fits = next-fits c.taken-package-items.ensures.ranged c.args.choice _ _ t;
    }

pub loop-package-preserved : goal.loop-package-preserved
loop-package-preserved c =
    let t = YieldsList-turn (walk c.taken-package-items.ensures.ranged c.args.choice c.into_iter-package-iterator.result cc) c.loop-package.yielded _ c.loop-package.yielded_by _ c.next.new.self c.in-Some.package c.in-Some.is c.next.ensures.steps in
    c.add.ensures
    ∙ ap (λ s. added s c.in-Some.package.now) c.loop-package.invariant
    ∙ next-added c.taken-package-items.ensures.ranged c.args.choice _ _ t
    ∙ ap (λ n. tally_of (take n (taken c.args.docket.now.packages c.args.choice))) (sym (length_push c.loop-package.yielded c.in-Some.package))

pub returns : goal.returns
returns c =
    let t = YieldsList-end (walk c.taken-package-items.ensures.ranged c.args.choice c.into_iter-package-iterator.result cc) c.loop-package.yielded _ c.loop-package.yielded_by _ c.next.new.self c.in-None.is c.next.ensures.steps in
    record {
      tally =
          c.loop-package.invariant
          ∙ ap (λ n. tally_of (take n (taken c.args.docket.now.packages c.args.choice))) t.1
          ∙ ap tally_of (take-length _);
      ranged = c.taken-package-items.ensures.ranged;
    }
