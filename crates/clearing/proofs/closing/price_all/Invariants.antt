-- What the loop of `price_all` keeps true: each price so far is in range and the one that the rule means.
use Rattle.clearing.proofs.Pricings.{Pricing}
use Rattle.clearing.proofs.closing.price_all.Given as goal

abbrev pub invariant-loop-i : goal.invariant-loop-i
invariant-loop-i g l =
    Pricing (g.P.PriceRule.meaning l.initial.rule) (g.P.PriceRule.meaning l.rule) l.ledger l.i l.prices
