use Rattle.std.proofs.Common.{◌≡◌, ◌++◌, map}
use Rattle.journals.specs.Calls.{call_said, shown_of}
use Rattle.journals.specs.Lines.{said}
use Rattle.journals.proofs.Meanings.{call}
use Rattle.journals.proofs.requests.planned.Given as goal

-- what there is so far, and what the lines that are left come to
abbrev pub invariant-loop-line : goal.invariant-loop-line
invariant-loop-line l =
    let rest = map said l.line-iterator.rest.items in
    let all = map said l.fn.lines.items in
    record {
      requests : map call l.requests.items ++ map call_said rest ≡ map call_said all;
      shown : l.shown.items ++ map shown_of rest ≡ map shown_of all;
    }
