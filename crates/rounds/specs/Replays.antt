-- What a whole run of requests comes to.
use Rattle.std.specs.Prelude.{◌≡◌, List, map, vec_items}
use Rattle.rounds.specs.declared.replays.Stage.{Stage}
use Rattle.rounds.specs.declared.replays.Stage.TheVariants as stage
use Rattle.rounds.specs.declared.replays.Moment.{Moment}
use Rattle.rounds.specs.declared.replays.Run.{Run}
use Rattle.rounds.specs.Model.{PlainStage, AtOpen, AtClosed, AtAwarded, PlainMoment, Call, open_and_vacant, after, moments_from}
use Rattle.rounds.specs.Promises.{Promised}
use Rattle.rounds.specs.Requests.{of_round, answer_of}

abbrev pub of_stage : Stage → PlainStage
of_stage stage.Open = AtOpen
of_stage (stage.Closed at) = AtClosed at
of_stage (stage.Awarded at) = AtAwarded at

abbrev pub moment_of : Moment → PlainMoment
moment_of m = record { answer = answer_of m.reply; entries = m.offers; stage = of_stage m.stage }

-- Calls that were made one after another, from an open and vacant round.
pub record Replays (calls : List Call) (run : Run) : Type 0 where
  -- the round in the end is the plain one
  pub round : of_round run.round ≡ after calls
  -- and so is each moment: the answer, with its row or buffer, and right after it the entries and where the round stands, but for its docket
  pub moments : map moment_of (vec_items run.moments) ≡ moments_from open_and_vacant calls
  -- what is promised of the run
  pub promised : Promised calls
