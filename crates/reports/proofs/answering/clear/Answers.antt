-- `clear`: the two calls and the search are those that a sheet is cleared by.
use Rattle.std.proofs.Common.{◌≡◌, Ok, Result, sym, ap, ◌∙◌, subst}
use Rattle.offers.specs.declared.refusals.Refusal.{Refusal}
use Rattle.pricing.specs.Prices.{filed_price}
use Rattle.rounds.specs.Model.{CatchUp, Close, Done, PlainRound, step}
use Rattle.rounds.specs.Views.{of_open, of_closed, of_awarded, gave, gave_closing, Finishes}
use Rattle.reports.specs.Searching.{searching}
use Rattle.reports.proofs.Calls.{both_answered, both_left}
use Rattle.reports.proofs.answering.clear.Goals as goal

pub returns-in-Ok : goal.returns-in-Ok
returns-in-Ok g c =
    let before = of_open c.args.round in
    let first = of_open c.catch_up.new.self in
    let second = of_closed c.in-Ok.closed in
    let read : gave first (Done (Ok tt)) ≡ step before (CatchUp c.args.sheet.now) = ap (λ (r : Result Unit Refusal). gave first (Done r)) (sym c.in_ok-catch_up.was) ∙ c.catch_up.ensures.step in
    let shut : gave second (Done (Ok tt)) ≡ step first (Close filed_price) = ap gave_closing (sym c.in-Ok.is) ∙ c.close.ensures.served.step in
    record {
      accepted = both_answered before first second (CatchUp c.args.sheet.now) (Close filed_price) (Done (Ok tt)) (Done (Ok tt)) read shut;
      finished =
          subst (λ (m : PlainRound). Finishes m (searching c.args.rules) (of_awarded c.finish.result))
          (sym (both_left before first second (CatchUp c.args.sheet.now) (Close filed_price) (Done (Ok tt)) (Done (Ok tt)) read shut)) c.finish.ensures.finishes;
    }
