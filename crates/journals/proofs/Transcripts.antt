-- The lines that a loop over shown and moments has written are those of their transcript.
use Rattle.std.proofs.Common.{ℕ, Iter, ◌≡◌, refl, sym, ap, subst, ◌∙◌, List, [], ◌∷◌, ◌++◌, map, None, Option, ◌⊎◌, inl, inr}
use Rattle.std.proofs.lemmas.Slice.Zip.{either_empty_from_Zip}
use Rattle.std.proofs.lemmas.Iterator.{zips}
use Rattle.std.proofs.lemmas.Fn.{fronts}
use Rattle.std.specs.declared.iter.Zip.{Zip}
use Rattle.std.specs.Borrow.{Bor}
use Rattle.std.specs.Iterator.{Yields}
use Rattle.std.specs.Slice.Iter.{iter_rest}
use Rattle.std.specs.Iterator.Adapters.{zip_first, zip_second}
use Rattle.std.specs.List.{flat_map}
use Rattle.rounds.specs.declared.replays.Moment.{Moment}
use Rattle.rounds.specs.Replays.{moment_of}
use Rattle.journals.specs.declared.lines.Shown.{Shown}
use Rattle.journals.specs.Running.{answer_line, transcript_of}

-- the line of one turn
abbrev pub turn_line : Bor Shown × Bor Moment → List ℕ
turn_line p = answer_line (p.0.now, moment_of p.1.now)

lines_of_none : (shown : List Shown) (moments : List Moment) → (shown ≡ []) ⊎ (moments ≡ []) → transcript_of shown (map moment_of moments) ≡ []
lines_of_none shown moments (inl e) = ap (λ l. transcript_of l (map moment_of moments)) e
lines_of_none [] moments (inr e) = refl
lines_of_none (s ∷ shown) moments (inr e) = ap (λ l. transcript_of (s ∷ shown) (map moment_of l)) e

-- from where the loop began, by turns
pub transcript_lines : (turns : List (Bor Shown × Bor Moment)) (s t u : Zip (Iter Shown) (Iter Moment)) (r : Option (Bor Shown × Bor Moment))
    → Yields (zips fronts fronts) s turns t → r ≡ None → zips fronts fronts t r u
    → flat_map turn_line turns ≡ transcript_of (iter_rest (zip_first s)) (map moment_of (iter_rest (zip_second s)))
transcript_lines [] s t u r same none end =
    sym (lines_of_none _ _ (subst (λ z. (iter_rest (zip_first z) ≡ []) ⊎ (iter_rest (zip_second z) ≡ [])) (sym same) (either_empty_from_Zip t u r none end)))
transcript_lines (turn ∷ turns) s t u r yields none end =
    ap (λ l. turn_line turn ++ l) (transcript_lines turns yields.0 t u r yields.2 none end)
    ∙ sym (ap (λ shown. transcript_of shown (map moment_of (iter_rest (zip_second s)))) yields.1.0
    ∙ ap (λ moments. transcript_of (turn.0.now ∷ iter_rest (zip_first yields.0)) (map moment_of moments)) yields.1.1)
