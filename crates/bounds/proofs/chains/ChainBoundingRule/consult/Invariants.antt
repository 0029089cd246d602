-- What the loop of `consult` keeps true: the rules keep their meanings, and the cap is that of the first and the others so far.
use Rattle.std.proofs.Common.{map, take, Some, ◌≡◌}
use Rattle.bounds.specs.Blocks.{InDocket}
use Rattle.bounds.specs.Rules.{chained}
use Rattle.bounds.proofs.chains.ChainBoundingRule.consult.Given as goal

abbrev pub invariant-loop-rule : goal.invariant-loop-rule
invariant-loop-rule g l =
    let answers = g.B.BoundingRule.answers in
    let others = map answers l.fn.self.others.items in
    record {
      same : map answers l.rule-items ≡ others;
      so_far :
          InDocket l.docket l.block
          → Some l.cap ≡ chained (answers l.fn.self.first) (take l.rule-index others) l.docket l.block;
    }
