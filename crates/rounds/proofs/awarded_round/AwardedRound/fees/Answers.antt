-- `fees`: it does what the plain round's step does.
use Rattle.std.proofs.Common.{◌≡◌, ℕ, List, Result, ap₂}
use Rattle.offers.specs.declared.refusals.Refusal.{Refusal}
use Rattle.rounds.specs.Model.{PlainRound, ReadFees, Charged}
use Rattle.rounds.specs.Views.{of_awarded, gave}
use Rattle.rounds.proofs.Kept.{serves}
use Rattle.rounds.proofs.awarded_round.AwardedRound.fees.Goals as goal

-- equal answers and rows make equal steps
same_charge : (m : PlainRound) (r s : Result ℕ Refusal) (xs ys : List ℕ) → r ≡ s → xs ≡ ys → gave m (Charged r xs) ≡ gave m (Charged s ys)
same_charge m r s xs ys answer row = ap₂ (λ (r : Result ℕ Refusal) (xs : List ℕ). gave m (Charged r xs)) answer row

pub returns-clause-served : goal.returns-clause-served
returns-clause-served c =
    let m = of_awarded c.args.self.now in
    serves m (ReadFees c.args.rates c.args.row.now) (gave m (Charged c.charge_fees.result c.charge_fees.new.row)) tt
    (rw (← c.self.view_is) (same_charge _ _ _ _ _ c.charge_fees.ensures.answer c.charge_fees.ensures.row))
