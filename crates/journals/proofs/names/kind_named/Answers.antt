use Rattle.std.proofs.Common.{◌≡◌, sym, ap, rules, arith}
use Rattle.std.specs.Prelude.{codes}
use Rattle.std.proofs.lemmas.Slice.Eq.{text_from_reads}
use Rattle.journals.specs.Names.{case_named, kinds}
use Rattle.journals.proofs.names.kind_named.Goals as goal

pub returns-in-package : goal.returns-in-package
returns-in-package c =
    let word = c.args.word.now in
    let is : word ≡ codes "package" = text_from_reads word (codes "package") (omega arith) (search rules) in
    ap (case_named kinds) (sym is)

pub returns-in-exclusion : goal.returns-in-exclusion
returns-in-exclusion c =
    let word = c.args.word.now in
    let is : word ≡ codes "exclusion" = text_from_reads word (codes "exclusion") (omega arith) (search rules) in
    ap (case_named kinds) (sym is)
