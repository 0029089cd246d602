use Rattle.std.proofs.Common.{◌≡◌, sym, ap, rules, arith}
use Rattle.std.specs.Prelude.{codes}
use Rattle.std.proofs.lemmas.Slice.Eq.{text_from_reads}
use Rattle.journals.specs.Names.{case_named, verbs}
use Rattle.journals.proofs.names.verb_named.Goals as goal

pub returns-in-withdraw : goal.returns-in-withdraw
returns-in-withdraw c =
    let word = c.args.word.now in
    let is : word ≡ codes "withdraw" = text_from_reads word (codes "withdraw") (omega arith) (search rules) in
    ap (case_named verbs) (sym is)

pub returns-in-99 : goal.returns-in-99
returns-in-99 c =
    let word = c.args.word.now in
    let is : word ≡ codes "catch-up" = text_from_reads word (codes "catch-up") (omega arith) (search rules) in
    ap (case_named verbs) (sym is)

pub returns-in-search : goal.returns-in-search
returns-in-search c =
    let word = c.args.word.now in
    let is : word ≡ codes "search" = text_from_reads word (codes "search") (omega arith) (search rules) in
    ap (case_named verbs) (sym is)

pub returns-in-reopen : goal.returns-in-reopen
returns-in-reopen c =
    let word = c.args.word.now in
    let is : word ≡ codes "reopen" = text_from_reads word (codes "reopen") (omega arith) (search rules) in
    ap (case_named verbs) (sym is)
