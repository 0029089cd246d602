-- `consult` of a chain: a rule more joins its answer to the cap so far, and none stays none whatever is joined to it.
use Rattle.std.proofs.Common.{◌≡◌, ℕ, ◌+◌, ◌<◌, ◌≤◌, List, [], ◌∷◌, map, length, get_or, set, take, drop, ℤ, to_z, of_z, w64, Some, None, sym, ap, ap₂, ◌∙◌, arith}
use Rattle.std.specs.Int.{int_min}
use Rattle.std.proofs.lemmas.Int.{ints, clamps}
use Rattle.std.proofs.lemmas.List.{map-set, set-get_or, get_or-map, length-map, length-set, take-append-drop, take_all, with_items_is}
use Rattle.std.proofs.lemmas.List.Sums.{fold-append, fold_more}
use Rattle.clearing.specs.Lawful.{View}
use Rattle.bounds.specs.Blocks.{Span, Answers}
use Rattle.bounds.specs.Rules.{smaller, joined, chained}
use Rattle.bounds.proofs.chains.ChainBoundingRule.consult.Goals as goal

-- rules joined to one that says none say none
chained-none : (v : View) (b : Span) (first : Answers) (others : List Answers) → None ≡ first v b → None ≡ chained first others v b
chained-none v b first [] none = none
chained-none v b first (other ∷ others) none = chained-none v b (joined first other) others (ap (λ answer. smaller answer (other v b)) none)

module _ {B : Type 0} (answers : B → Answers) (others : List Answers) (rules : List B) (same : map answers rules ≡ others) (i : ℕ) (d : B) (inside : i < length rules) where
  -- the meaning at a place is that of the rule there
  at_place : get_or others i (answers d) ≡ answers (get_or rules i d)
  at_place = ap (λ l. get_or l i (answers d)) (sym same) ∙ get_or-map answers rules i d (answers d) inside

  -- so one of that meaning in its place keeps them all
  kept : (after : B) → answers after ≡ answers (get_or rules i d) → map answers (set rules i after) ≡ others
  kept after keeps =
      map-set answers rules i after
      ∙ ap (λ l. set l i (answers after)) same
      ∙ ap (set others i) (keeps ∙ sym at_place)
      ∙ set-get_or others i (answers d)

  module _ (first : Answers) (v : View) (b : Span) (cap : ℤ) (so_far : Some cap ≡ chained first (take i others) v b) where
    -- the first so many rules and that one mean the smaller of the cap so far and its answer
    one_more : chained first (take (i + 1) others) v b ≡ smaller (Some cap) (answers (get_or rules i d) v b)
    one_more =
        let within : i < length others = omega (arith, ap length same, length-map rules answers) in
        ap (λ (a : Answers). a v b) (fold_more joined first others i (answers d) within)
        ∙ ap₂ smaller (sym so_far) (ap (λ (a : Answers). a v b) at_place)

    -- so a cap of it leaves the smaller
    one_more-some : (other : ℤ) → Some other ≡ answers (get_or rules i d) v b → Some (int_min cap other) ≡ chained first (take (i + 1) others) v b
    one_more-some other some = ap (smaller (Some cap)) some ∙ sym one_more

    -- and where it says none, so do all
    one_more-none : None ≡ answers (get_or rules i d) v b → None ≡ chained first others v b
    one_more-none none =
        chained-none v b (chained first (take (i + 1) others)) (drop (i + 1) others) (ap (smaller (Some cap)) none ∙ sym one_more)
        ∙ ap (λ (a : Answers). a v b) (sym (fold-append joined first (take (i + 1) others) (drop (i + 1) others)))
        ∙ ap (λ l. chained first l v b) (take-append-drop (i + 1) others)

pub returns-in-None-clause-answer : goal.returns-in-None-clause-answer
returns-in-None-clause-answer g c block =
    let answers = g.B.BoundingRule.answers in
    chained-none c.args.docket.now c.args.block (answers c.args.self.now.first) (map answers c.args.self.now.others.items)
    (sym c.in-None.is ∙ c.consult.ensures.answer block)

pub loop-rule-init : goal.loop-rule-init
loop-rule-init g c =
    let fits : to_z w64 (of_z w64 c.in-Some.cap) ≡ c.in-Some.cap = omega (arith, ints) in
    record {
      same = ap (map g.B.BoundingRule.answers) c.deref_mut-rule-items.ensures.value;
      so_far = λ block. ap Some fits ∙ sym c.in-Some.is ∙ c.consult.ensures.answer block;
    }

pub returns-in-None-consult-clause-answer : goal.returns-in-None-consult-clause-answer
returns-in-None-consult-clause-answer g c block =
    let inside : c.loop-rule.rule-index < length c.loop-rule.rule-items = omega (arith, c.loop-rule.auto.rule-items) in
    one_more-none g.B.BoundingRule.answers _ c.loop-rule.rule-items c.loop-rule.invariant.same c.loop-rule.rule-index c.rule-item.result inside
    (g.B.BoundingRule.answers c.args.self.now.first) c.args.docket.now c.args.block _ (c.loop-rule.invariant.so_far block)
    (sym c.in-None-consult.is ∙ c.consult-in-loop-rule.ensures.answer block)

pub returns-in-None-consult-clause-same : goal.returns-in-None-consult-clause-same
returns-in-None-consult-clause-same g c =
    let answers = g.B.BoundingRule.answers in
    let rules = c.loop-rule.rule-items in
    let i = c.loop-rule.rule-index in
    let after = c.consult-in-loop-rule.new.self in
    let inside : i < length rules = omega (arith, c.loop-rule.auto.rule-items) in
    let long : length (set rules i after) ≡ c.args.self.now.others.len =
    omega (arith, length-set rules i after, c.loop-rule.auto.rule-items, c.deref_mut-rule-items.ensures.len) in
    ap₂ chained c.consult.ensures.same
    (ap (map answers) (with_items_is c.args.self.now.others (set rules i after) long)
    ∙ kept answers _ rules c.loop-rule.invariant.same i c.rule-item.result inside after c.consult-in-loop-rule.ensures.same)

pub loop-rule-preserved : goal.loop-rule-preserved
loop-rule-preserved g c =
    let answers = g.B.BoundingRule.answers in
    let rules = c.loop-rule.rule-items in
    let i = c.loop-rule.rule-index in
    let inside : i < length rules = omega (arith, c.loop-rule.auto.rule-items) in
    let least : to_z w64 (of_z w64 c.min-cap.result) ≡ int_min (to_z w64 c.loop-rule.cap-bits) c.in-Some-consult.other_cap = omega (arith, ints, clamps) in
    record {
      same = kept answers _ rules c.loop-rule.invariant.same i c.rule-item.result inside c.consult-in-loop-rule.new.self c.consult-in-loop-rule.ensures.same;
      so_far = λ block.
          ap Some least
          ∙ one_more-some answers _ rules c.loop-rule.invariant.same i c.rule-item.result inside
          (answers c.args.self.now.first) c.args.docket.now c.args.block _ (c.loop-rule.invariant.so_far block)
          c.in-Some-consult.other_cap (sym c.in-Some-consult.is ∙ c.consult-in-loop-rule.ensures.answer block);
    }

pub returns-clause-answer : goal.returns-clause-answer
returns-clause-answer g c block =
    let others = map g.B.BoundingRule.answers c.args.self.now.others.items in
    let all : length others ≤ c.loop-rule.rule-index =
    omega (arith, c.loop-rule.auto.rule-items, ap length c.loop-rule.invariant.same, length-map c.loop-rule.rule-items g.B.BoundingRule.answers) in
    c.loop-rule.invariant.so_far block
    ∙ ap (λ l. chained (g.B.BoundingRule.answers c.args.self.now.first) l c.args.docket.now c.args.block) (take_all c.loop-rule.rule-index others all)

pub returns-clause-same : goal.returns-clause-same
returns-clause-same g c =
    let long : length c.loop-rule.rule-items ≡ c.args.self.now.others.len = omega (arith, c.loop-rule.auto.rule-items, c.deref_mut-rule-items.ensures.len) in
    ap₂ chained c.consult.ensures.same
    (ap (map g.B.BoundingRule.answers) (with_items_is c.args.self.now.others c.loop-rule.rule-items long) ∙ c.loop-rule.invariant.same)
