-- What the loop of `catch_up` keeps true: what is left of the sheet gives the same answer as the whole of it.
use Rattle.std.proofs.Common.{◌≡◌, ◌+◌, length}
use Rattle.sheets.specs.Reading.{catch_from, catch_up}
use Rattle.sheets.proofs.reading.catch_up.Given as goal

abbrev pub invariant-loop-rest : goal.invariant-loop-rest
invariant-loop-rest l =
    (catch_from (length l.rest) l.copy l.cursor l.rest ≡ catch_up l.offers l.sheet)
    × (l.cursor.next_byte + length l.rest ≡ length l.sheet)

abbrev pub decreases-loop-rest : goal.decreases-loop-rest
decreases-loop-rest l = length l.rest
