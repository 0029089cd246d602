use Rattle.std.proofs.Common.{sym, ◌∙◌}
use Rattle.std.proofs.lemmas.List.{take_rest}
use Rattle.journals.proofs.Parting.{first_word}
use Rattle.journals.proofs.words.Words.next.Goals as goal

pub returns : goal.returns
returns c =
    let line = c.args.self.now.rest.now in
    let start = c.in_ok-start.start in
    let word = first_word line start (sym c.first_other.ensures ∙ c.in_ok-start.was) in
    let rest = take_rest line start in
    cc
