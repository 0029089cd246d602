use Rattle.std.proofs.Common.{◌≡◌, sym, ap, rules, arith}
use Rattle.std.specs.Prelude.{codes}
use Rattle.std.proofs.lemmas.Slice.Eq.{text_from_reads}
use Rattle.journals.specs.Names.{case_named, bounding_rules}
use Rattle.journals.proofs.names.rule_named.Goals as goal

pub returns-in-ceiling : goal.returns-in-ceiling
returns-in-ceiling c =
    let word = c.args.word.now in
    let is : word ≡ codes "ceiling" = text_from_reads word (codes "ceiling") (omega arith) (search rules) in
    ap (case_named bounding_rules) (sym is)

pub returns-in-97 : goal.returns-in-97
returns-in-97 c =
    let word = c.args.word.now in
    let is : word ≡ codes "all-in" = text_from_reads word (codes "all-in") (omega arith) (search rules) in
    ap (case_named bounding_rules) (sym is)

pub returns-in-111 : goal.returns-in-111
returns-in-111 c =
    let word = c.args.word.now in
    let is : word ≡ codes "one-by-one" = text_from_reads word (codes "one-by-one") (omega arith) (search rules) in
    ap (case_named bounding_rules) (sym is)

pub returns-in-limits : goal.returns-in-limits
returns-in-limits c =
    let word = c.args.word.now in
    let is : word ≡ codes "limits" = text_from_reads word (codes "limits") (omega arith) (search rules) in
    ap (case_named bounding_rules) (sym is)

pub returns-in-shares : goal.returns-in-shares
returns-in-shares c =
    let word = c.args.word.now in
    let is : word ≡ codes "shares" = text_from_reads word (codes "shares") (omega arith) (search rules) in
    ap (case_named bounding_rules) (sym is)

pub returns-in-tangent : goal.returns-in-tangent
returns-in-tangent c =
    let word = c.args.word.now in
    let is : word ≡ codes "tangent" = text_from_reads word (codes "tangent") (omega arith) (search rules) in
    ap (case_named bounding_rules) (sym is)
