-- `put_register`: each turn writes the field of one entry after those before it.
use Rattle.std.proofs.Common.{◌+◌, arith}
use Rattle.sheets.specs.Writing.{entry_bytes}
use Rattle.sheets.proofs.Puts.{Put, put_none, put_entry, register_room}
use Rattle.sheets.proofs.writing.put_register.Goals as goal
use Rattle.sheets.proofs.writing.put_register.Goals.{in-Vacant, in-Open, in-Withdrawn}

pub put_field-next-requires-clause-room : goal.put_field-next-requires-clause-room
put_field-next-requires-clause-room g c =
    let room = register_room g.R.Record.layout c.args.entries.now c.loop-i.i c.index-entries-i.result c.loop-i-test.true c.index-entries-i.is in
    omega (arith, rw c.in-Open.is at room, c.loop-i.invariant.ends)

pub put_field-next-requires-in-Withdrawn-clause-room : goal.put_field-next-requires-in-Withdrawn-clause-room
put_field-next-requires-in-Withdrawn-clause-room g c =
    let room = register_room g.R.Record.layout c.args.entries.now c.loop-i.i c.index-entries-i.result c.loop-i-test.true c.index-entries-i.is in
    omega (arith, rw c.in-Withdrawn.is at room, c.loop-i.invariant.ends)

pub loop-i-preserved : goal.loop-i-preserved
loop-i-preserved g c =
    let bytes = entry_bytes g.R.Record.layout (c.loop-i.i + 1) c.index-entries-i.result in
    let next : Put c.loop-i.next c.match-entry.next bytes c.loop-i.buffer c.match-entry.buffer =
    elim c.match-entry.branch [
      | in-Vacant w ↦ rw (w.in-Vacant.is, w.next-is, w.buffer-is) (put_none _ _)
      | in-Open w ↦ rw (w.in-Open.is, w.next-is, w.buffer-is) (record { ends = cc; front = cc; back = cc })
      | in-Withdrawn w ↦ rw (w.in-Withdrawn.is, w.next-is, w.buffer-is) (record { ends = cc; front = cc; back = cc })
    ] in
    put_entry g.R.Record.layout c.args.entries.now c.loop-i.i c.index-entries-i.result c.loop-i-test.true
    c.index-entries-i.is (omega arith) c.loop-i.invariant next
