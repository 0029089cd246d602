-- Requests and replies as calls and answers.
use Rattle.std.specs.Prelude.{vec_items}
use Rattle.bounds.specs.Blocks.{Answers}
use Rattle.pricing.specs.Prices.{Meaning}
use Rattle.rounds.specs.declared.requests.Round.{Round}
use Rattle.rounds.specs.declared.requests.Round.TheVariants as round
use Rattle.rounds.specs.declared.requests.Request.{Request}
use Rattle.rounds.specs.declared.requests.Request.TheVariants as request
use Rattle.rounds.specs.declared.requests.Reply.{Reply}
use Rattle.rounds.specs.declared.requests.Reply.TheVariants as reply
use Rattle.rounds.specs.Model.{Call, File, Withdraw, CatchUp, Close, Search, Reopen, ReadAward, ReadFees, WriteSheet, Answer, Done, Found, Reopened, Awarded, Charged, Written, NotTaken, PlainRound, Stepped}
use Rattle.rounds.specs.Views.{of_open, of_closed, of_awarded, gave}

abbrev pub of_round : Round → PlainRound
of_round (round.Open r) = of_open r
of_round (round.Closed r) = of_closed r
of_round (round.Awarded r) = of_awarded r

-- a request as a call, by the meanings of its rules
abbrev pub call_of : {P B : Type 0} → (P → Meaning) → (B → Answers) → Request P B → Call
call_of meaning answers (request.File n offer) = File n offer
call_of meaning answers (request.Withdraw k n) = Withdraw k n
call_of meaning answers (request.CatchUp sheet) = CatchUp (vec_items sheet)
call_of meaning answers (request.Close rule) = Close (meaning rule)
call_of meaning answers (request.Search rule count) = Search (answers rule) count
call_of meaning answers request.Reopen = Reopen
call_of meaning answers (request.ReadAward lent) = ReadAward (vec_items lent)
call_of meaning answers (request.ReadFees rates lent) = ReadFees rates (vec_items lent)
call_of meaning answers (request.WriteSheet buffer) = WriteSheet (vec_items buffer)

abbrev pub answer_of : Reply → Answer
answer_of (reply.Done r) = Done r
answer_of (reply.Found r) = Found r
answer_of reply.Reopened = Reopened
answer_of (reply.Awarded r lent) = Awarded r (vec_items lent)
answer_of (reply.Charged r lent) = Charged r (vec_items lent)
answer_of (reply.Written r buffer) = Written r (vec_items buffer)
answer_of reply.NotTaken = NotTaken

-- what a request leaves, and what it is answered
abbrev pub gave_reply : Round × Reply → Stepped
gave_reply r = gave (of_round r.0) (answer_of r.1)
