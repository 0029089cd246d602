-- `replay`: where no request is left, the round and the moments are those of the whole run.
use Rattle.std.proofs.Common.{arith}
use Rattle.std.proofs.lemmas.Grind.{common_steps}
use Rattle.rounds.proofs.Kept.{lawful_requests, promised_all}
use Rattle.rounds.proofs.replays.replay.Goals as goal

pub returns : goal.returns
returns g c = record {
  round = grind (arith, common_steps);
  moments = grind (arith, common_steps);
  promised = promised_all _ (lawful_requests _ _ g.met.P.PriceRule.bounded g.met.B.BoundingRule.sound c.args.requests.items);
}
