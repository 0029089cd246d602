-- `price_all`: what a rule answers is in range by its law, and the first fault refuses.
use Rattle.std.proofs.Common.{set, Err, sym, refl, ap, ◌∙◌, subst, arith}
use Rattle.pricing.specs.Prices.{Bounded}
use Rattle.clearing.proofs.Fits.{price-from, price-stored}
use Rattle.clearing.proofs.Pricings.{none_priced, one_priced, refused_at}
use Rattle.clearing.proofs.closing.price_all.Goals as goal
use Rattle.clearing.proofs.closing.price_all.Goals.{in-Open+in-Ok, in_default}

pub loop-i-preserved : goal.loop-i-preserved
loop-i-preserved g c =
    let es = c.ledger.inside.entries in
    let i = c.loop-i.i in
    let inv = rw (← c.ledger.view_is) at c.loop-i.invariant in
    rw (← c.ledger.view_is) (elim c.match-entry.branch [
      | in-Open+in-Ok w ↦
          let answer = w.in-Ok.ensures.answer in
          let between = subst Bounded (sym answer) (g.met.P.PriceRule.bounded c.loop-i.rule w.in-Open.package) in
          let fits = price-from w.in-Ok.price between.0 between.1 in
          one_priced _ _ es i c.loop-i.prices inv w.in-Open.package w.in-Ok.price _ _ (omega arith) w.in-Open.is answer fits
          (w.prices-is ∙ ap (set c.loop-i.prices i) (price-stored w.in-Ok.price fits))
          (ap g.P.PriceRule.meaning w.rule-is ∙ w.price.ensures.same)
      | in_default w ↦
          none_priced _ _ es i c.loop-i.prices inv _ _ w.in_default.not-Open w.prices-is (ap g.P.PriceRule.meaning w.rule-is)
    ])

pub returns-in-Err : goal.returns-in-Err
returns-in-Err g c =
    let inv = rw (← c.ledger.view_is) at c.loop-i.invariant in
    let fault = ap (λ m. m c.in-Open.package) (sym inv.same) ∙ sym c.in-Err.ensures.answer in
    record {
      fit = tt;
      answer =
          rw (← c.ledger.view_is)
          (refused_at _ c.ledger.inside.entries c.loop-i.prices c.loop-i.i c.in-Open.package c.in-Err.fault inv.so c.in-Open.is fault
          ∙ ap Err (sym c.price_fault.ensures));
      same_rule = c.price.ensures.same ∙ inv.same;
      carries = rw c.price_fault.ensures (record { tag = tt; number = tt; field = refl; byte = refl; depth = tt });
    }
