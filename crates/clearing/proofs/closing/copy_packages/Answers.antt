-- `copy_packages`: an open package is in range, and so are its number and its price.
use Rattle.std.proofs.Common.{◌≡◌, ◌+◌, ◌-◌, true, get_or, pos, sym, ap, ◌∙◌, subst, arith, w64, to_z, of_z}
use Rattle.std.proofs.lemmas.Bool.{and_from}
use Rattle.offers.specs.Tables.{package_layout}
use Rattle.clearing.specs.Ranges.{price_fits}
use Rattle.clearing.proofs.Fits.{open_fits, within-from, each_getD, price-stored}
use Rattle.clearing.proofs.Copies.{none_more, one_more}
use Rattle.clearing.proofs.closing.copy_packages.Goals as goal
use Rattle.clearing.proofs.closing.copy_packages.Goals.{in-Open, in_default}

pub loop-i-preserved : goal.loop-i-preserved
loop-i-preserved c =
    let es = c.ledger.inside.entries in
    let i = c.loop-i.i in
    let price = get_or c.args.prices.now i (pos 0) in
    let inv = rw (← c.ledger.view_is) at c.loop-i.invariant in
    rw (← c.ledger.view_is) (elim c.match-entry.branch [
      | in-Open w ↦
          let r = w.in-Open.package in
          let fit = each_getD price_fits c.args.prices.now i (pos 0) (omega arith) c.requires.prices_fit in
          let stored = price-stored price fit in
          let past : i ≡ i + 1 - 1 = omega arith in
          rw w.into-is (one_more _ _ es c.loop-i.into i (omega arith) inv w.push.new.self r
          (record { number = i + 1; price = to_z w64 (of_z w64 price); terms = r }) w.in-Open.is
          (ap (λ z. record { number = i + 1; price = z; terms = r }) (stored ∙ ap (λ n. get_or c.args.prices.now n (pos 0)) past))
          (and_from _ _ (open_fits package_layout es i r c.ledger.invariant.in_range w.in-Open.is)
          (and_from _ _ (within-from 1 40 (i + 1) (omega arith) (omega arith)) (subst (λ z. price_fits z ≡ true) (sym stored) fit)))
          w.push.ensures)
      | in_default w ↦ none_more _ _ es c.loop-i.into i (omega arith) inv _ w.in_default.not-Open w.into-is
    ])
