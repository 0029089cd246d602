use Rattle.std.proofs.Common.{ℕ, ◌+◌, eqb, ap, sym, ◌∙◌, ◌∷◌, take}
use Rattle.std.specs.List.{slice_split}
use Rattle.std.proofs.lemmas.List.{take_rest}
use Rattle.journals.proofs.Parting.{one_part, first_part}
use Rattle.journals.proofs.parts.split_once.Goals as goal

pub returns-in-Some-clause-parts : goal.returns-in-Some-clause-parts
returns-in-Some-clause-parts c =
    let p = λ (byte : ℕ). eqb byte c.args.separator in
    let text = c.args.text.now in
    let at = c.in-Some.at in
    first_part p text at (sym c.first.ensures ∙ c.in-Some.is)
    ∙ ap (λ rest. take at text ∷ slice_split p rest) (sym (take_rest text (at + 1)))

pub returns-in-None-clause-parts : goal.returns-in-None-clause-parts
returns-in-None-clause-parts c =
    one_part (λ (byte : ℕ). eqb byte c.args.separator) c.args.text.now (sym c.first.ensures ∙ c.in-None.is)
