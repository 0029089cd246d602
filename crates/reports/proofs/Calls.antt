-- Two accepted calls, one after the other.
use Rattle.std.proofs.Common.{◌≡◌, [], ◌∷◌, refl, subst}
use Rattle.rounds.specs.Model.{Call, Answer, PlainRound, Stepped, step, answers_from, after_from}
use Rattle.rounds.specs.Views.{gave}

-- both are answered so
pub both_answered : (before first second : PlainRound) (a b : Call) (x y : Answer) → gave first x ≡ step before a → gave second y ≡ step first b
    → answers_from before (a ∷ b ∷ []) ≡ x ∷ y ∷ []
both_answered before first second a b x y e f =
    subst (λ (s : Stepped). s.answer ∷ (step s.after b).answer ∷ [] ≡ x ∷ y ∷ []) e
    (subst (λ (s : Stepped). x ∷ s.answer ∷ [] ≡ x ∷ y ∷ []) f refl)

-- and leave what the second leaves
pub both_left : (before first second : PlainRound) (a b : Call) (x y : Answer) → gave first x ≡ step before a → gave second y ≡ step first b
    → after_from before (a ∷ b ∷ []) ≡ second
both_left before first second a b x y e f =
    subst (λ (s : Stepped). (step s.after b).after ≡ second) e (subst (λ (s : Stepped). s.after ≡ second) f refl)
