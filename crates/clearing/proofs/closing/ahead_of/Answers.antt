-- `ahead_of`: each open band that comes ahead adds its quantity, which is in range.
use Rattle.std.proofs.Common.{◌+◌, ◌<◌, length, sym, ◌∙◌, arith}
use Rattle.std.proofs.lemmas.Bool.{cond-true, cond-false}
use Rattle.offers.specs.declared.records.Band.{Band}
use Rattle.offers.specs.Tables.{band_layout}
use Rattle.clearing.specs.Bands.{Numbered}
use Rattle.clearing.proofs.Fits.{open_fits, band_ranges}
use Rattle.clearing.proofs.Openings.{ahead_open, ahead_shut, ahead_by_place}
use Rattle.clearing.proofs.closing.ahead_of.Goals as goal
use Rattle.clearing.proofs.closing.ahead_of.Goals.{in-Open+then-ahead_by, in-Open+else-ahead_by, in_default}

pub loop-i-preserved : goal.loop-i-preserved
loop-i-preserved c =
    let es = c.ledger.inside.entries in
    let i = c.loop-i.i in
    let band : Numbered Band = record { number = c.args.at + 1; terms = c.args.band.now } in
    let inside : i < length es = omega arith in
    let inv = rw (← c.ledger.view_is) at c.loop-i.invariant in
    rw (← c.ledger.view_is) (elim c.match-entry.branch [
      | in-Open+then-ahead_by w ↦
          let other = w.in-Open.other in
          let ranges = band_ranges other (open_fits band_layout es i other c.ledger.invariant.in_range w.in-Open.is) in
          let first = ahead_by_place other c.args.band.now i c.args.at ∙ sym w.if-ahead_by.ensures in
          let more = ahead_open es i band inside other w.in-Open.is in
          let counted = cond-true _ other.quantity 0 first in
          (omega (arith, w.ahead-is, inv.0), omega (arith, w.ahead-is))
      | in-Open+else-ahead_by w ↦
          let other = w.in-Open.other in
          let later = ahead_by_place other c.args.band.now i c.args.at ∙ sym w.if-ahead_by.ensures in
          let more = ahead_open es i band inside other w.in-Open.is in
          let counted = cond-false _ other.quantity 0 later in
          (omega (arith, w.ahead-is, inv.0), omega (arith, w.ahead-is))
      | in_default w ↦
          let same = ahead_shut es i band inside w.in_default.not-Open in
          (w.ahead-is ∙ inv.0 ∙ sym same, omega (arith, w.ahead-is))
    ])
