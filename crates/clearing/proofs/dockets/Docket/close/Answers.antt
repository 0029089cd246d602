-- `close`: what was copied is what a closing makes of the entries.
use Rattle.std.proofs.Common.{◌≡◌, map, Ok, sym, ap, ◌∙◌, subst}
use Rattle.offers.proofs.Soundness.{sound-held}
use Rattle.clearing.specs.Bands.{aheads, true_aheads}
use Rattle.clearing.specs.Closing.{open_from}
use Rattle.clearing.specs.Lawful.{nothing_open}
use Rattle.clearing.proofs.Openings.{bands_rise, bands-ahead}
use Rattle.clearing.proofs.Pricings.{at_price, priced_all}
use Rattle.clearing.proofs.Closings.{closing-priced, docket_is}
use Rattle.clearing.proofs.OpenDockets.{closing_open}
use Rattle.clearing.proofs.dockets.Docket.close.Goals as goal

pub invariant_of-self : goal.invariant_of-self
invariant_of-self g c = record {
  few_packages = c.copy_packages.ensures.few;
  few_bands = c.copy_bands.ensures.few;
  packages = c.copy_packages.ensures.fit;
  bands = c.copy_bands.ensures.fit;
  order = record {
    numbers = rw c.copy_bands.ensures.items (bands_rise c.args.offers.now.bands);
    ahead = subst (λ bs. aheads bs ≡ true_aheads bs) (sym c.copy_bands.ensures.items) (bands-ahead c.args.offers.now.bands);
  };
  pairs = c.copy_open.ensures.fit;
  exclusions = c.copy_open-2.ensures.fit;
  limits = c.copy_open-3.ensures.fit;
}

pub returns : goal.returns
returns g c =
    let before = c.args.self.now in
    let all = c.args.offers.now in
    let meaning = g.P.PriceRule.meaning c.args.rule.now in
    let prices = c.in_ok-prices.prices in
    let ps = map (at_price prices) (open_from 1 all.packages) in
    let prices-are = priced_all meaning all.packages prices c.in_ok-prices.ensures.answer in
    let made = closing-priced before all meaning ps prices-are in
    let docket = docket_is _ all ps c.copy_packages.ensures.items c.copy_bands.ensures.items c.copy_open.ensures.items c.copy_open-2.ensures.items c.copy_open-3.ensures.items in
    let accepted = closing-priced nothing_open all meaning ps prices-are ∙ ap (λ v. record { answer = Ok tt; after = v }) (sym docket) in
    record {
      answer = ap (λ o. o.answer) (sym made);
      after = docket ∙ ap (λ o. o.after) (sym made);
      same_rule = c.price_all.ensures.same_rule;
      by_closing = λ _. record {
        entries = all;
        meaning = meaning;
        sound = sound-held all c.copy_packages.ensures.held c.copy_bands.ensures.held c.copy_open.ensures.held c.copy_open-2.ensures.held c.copy_open-3.ensures.held;
        bounded = g.met.P.PriceRule.bounded c.args.rule.now;
        accepted = accepted;
      };
      of_open = λ _. closing_open all meaning _ nothing_open accepted;
      carries = tt;
    }
