-- What the loop of `live_choice` keeps true: the choice has no digits yet but those passed, and takes of the free packages that these stand for the ones that could be taken.
use Rattle.std.proofs.Common.{◌≡◌, ◌^◌, ◌<◌, take}
use Rattle.std.specs.List.{filter}
use Rattle.clearing.specs.Choices.{taken}
use Rattle.bounds.specs.Blocks.{InDocket, fixed, possible, free_ones}
use Rattle.bounds.specs.Rules.{joins}
use Rattle.bounds.proofs.live.live_choice.Given as goal

abbrev pub invariant-loop-place : goal.invariant-loop-place
invariant-loop-place l =
    let v = l.docket in
    let b = l.fn.block in
    record {
      bound : l.live < 2 ^ l.place;
      value : InDocket v b → taken v.packages l.live ≡ filter (joins v (fixed v b) (possible v b)) (take l.place (free_ones v b));
    }
