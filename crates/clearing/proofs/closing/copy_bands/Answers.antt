-- `copy_bands`: an open band is in range, and so are its number and what stands ahead of it.
use Rattle.std.proofs.Common.{◌+◌, ap, arith}
use Rattle.std.proofs.lemmas.Bool.{and_from, le-leb}
use Rattle.offers.specs.Tables.{band_layout}
use Rattle.clearing.proofs.Fits.{open_fits, within-from}
use Rattle.clearing.proofs.Copies.{none_more, one_more}
use Rattle.clearing.proofs.closing.copy_bands.Goals as goal
use Rattle.clearing.proofs.closing.copy_bands.Goals.{in-Open, in_default}

pub loop-i-preserved : goal.loop-i-preserved
loop-i-preserved c =
    let es = c.ledger.inside.entries in
    let i = c.loop-i.i in
    let inv = rw (← c.ledger.view_is) at c.loop-i.invariant in
    rw (← c.ledger.view_is) (elim c.match-entry.branch [
      | in-Open w ↦
          let r = w.in-Open.band in
          rw w.into-is (one_more _ _ es c.loop-i.into i (omega arith) inv w.push.new.self r
          (record { number = i + 1; ahead = w.ahead_of.result; terms = r }) w.in-Open.is
          (ap (λ n. record { number = i + 1; ahead = n; terms = r }) (rw (← c.ledger.view_is) at w.ahead_of.ensures.value))
          (and_from _ _ (open_fits band_layout es i r c.ledger.invariant.in_range w.in-Open.is)
          (and_from _ _ (within-from 1 64 (i + 1) (omega arith) (omega arith)) (le-leb _ 6400000000 w.ahead_of.ensures.bound)))
          w.push.ensures)
      | in_default w ↦ none_more _ _ es c.loop-i.into i (omega arith) inv _ w.in_default.not-Open w.into-is
    ])
