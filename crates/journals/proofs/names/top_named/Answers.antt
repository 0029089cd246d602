use Rattle.std.proofs.Common.{◌≡◌, sym, ap, rules, arith}
use Rattle.std.specs.Prelude.{codes}
use Rattle.std.proofs.lemmas.Slice.Eq.{text_from_reads}
use Rattle.journals.specs.Names.{case_named, stacks}
use Rattle.journals.proofs.names.top_named.Goals as goal

pub returns-in-currency : goal.returns-in-currency
returns-in-currency c =
    let word = c.args.word.now in
    let is : word ≡ codes "currency" = text_from_reads word (codes "currency") (omega arith) (search rules) in
    ap (case_named stacks) (sym is)
