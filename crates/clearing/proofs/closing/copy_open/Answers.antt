-- `copy_open`: an open record is in range.
use Rattle.std.proofs.Common.{◌<◌, length, sym, refl, ◌∙◌, arith}
use Rattle.std.proofs.lemmas.List.{get_or_read}
use Rattle.offers.specs.declared.registers.Entry.TheVariants.{Vacant}
use Rattle.clearing.proofs.Fits.{open_fits}
use Rattle.clearing.proofs.Copies.{none_more, one_more}
use Rattle.clearing.proofs.closing.copy_open.Goals as goal
use Rattle.clearing.proofs.closing.copy_open.Goals.{in-Open, in_default}

pub loop-entry-preserved : goal.loop-entry-preserved
loop-entry-preserved g c =
    let es = c.ledger.inside.entries in
    let i = c.loop-entry.entry-index in
    let inside : i < length es = omega (arith, c.ledger.invariant.whole) in
    let read = get_or_read es i c.entry-item.result inside c.entry-item.is Vacant in
    let inv = rw (← c.ledger.view_is) at c.loop-entry.invariant in
    rw (← c.ledger.view_is) (elim c.match-entry.branch [
      | in-Open w ↦
          let is = sym read ∙ c.entry-item.is ∙ w.in-Open.is in
          rw w.into-is (one_more _ _ es c.loop-entry.into i inside inv w.push.new.self w.in-Open.open _ is refl
          (open_fits g.R.Record.layout es i _ c.ledger.invariant.in_range is)
          w.push.ensures)
      | in_default w ↦ none_more _ _ es c.loop-entry.into i inside inv _ (λ r is. w.in_default.not-Open r (sym c.entry-item.is ∙ read ∙ is)) w.into-is
    ])
