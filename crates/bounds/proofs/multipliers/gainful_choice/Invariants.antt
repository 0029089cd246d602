-- What the loop of `gainful_choice` keeps true: the digits passed stand for those of the packages so far that are taken and worth more than their price.
use Rattle.std.proofs.Common.{◌≡◌, ◌/◌, ◌^◌, ◌<◌, take}
use Rattle.clearing.specs.Choices.{taken}
use Rattle.bounds.specs.Multipliers.{gainful}
use Rattle.bounds.proofs.multipliers.gainful_choice.Given as goal

abbrev pub invariant-loop-place : goal.invariant-loop-place
invariant-loop-place l =
    let ps = l.docket.packages in
    record {
      bound : l.gainful < 2 ^ l.place;
      rest : l.digits ≡ l.choice / 2 ^ l.place;
      value : taken ps l.gainful ≡ gainful l.multipliers (taken (take l.place ps) l.choice);
    }
