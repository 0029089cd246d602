-- What the loop of `put_register` keeps true: the fields of the entries so far are written.
use Rattle.std.proofs.Common.{take}
use Rattle.sheets.specs.Writing.{register_bytes}
use Rattle.sheets.proofs.Puts.{Put}
use Rattle.sheets.proofs.writing.put_register.Given as goal

abbrev pub invariant-loop-i : goal.invariant-loop-i
invariant-loop-i g l =
    Put l.at l.next (register_bytes g.R.Record.layout 1 (take l.i l.entries)) l.initial.buffer l.buffer
