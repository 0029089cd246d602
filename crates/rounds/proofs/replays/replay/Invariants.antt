-- What the loop of `replay` keeps true: the requests that are left lead where all lead, and have the last of all moments.
use Rattle.std.proofs.Common.{◌≡◌, map, ◌++◌}
use Rattle.rounds.specs.Model.{open_and_vacant, after, after_from, moments_from}
use Rattle.rounds.specs.Replays.{moment_of}
use Rattle.rounds.specs.Requests.{of_round, call_of}
use Rattle.rounds.proofs.replays.replay.Given as goal

abbrev pub invariant-loop-request : goal.invariant-loop-request
invariant-loop-request g l =
    let call = call_of g.P.PriceRule.meaning g.B.BoundingRule.answers in
    let rest = map call l.request-iterator.rest.items in
    let all = map call l.fn.requests.items in
    record {
      left : after_from (of_round l.round) rest ≡ after all;
      moments : map moment_of l.moments.items ++ moments_from (of_round l.round) rest ≡ moments_from open_and_vacant all;
    }
