-- A price times both rates fits, and its hundred-millionth rounded up is checked.
use Rattle.std.proofs.Common.{◌≡◌, ℕ, ◌*◌, ◌≤◌, ℤ, pos, ◌*ℤ◌, nat_abs, Ok, ap, ◌∙◌, ap₂, arith, w64, SFits, to_z, of_z, rules}
use Rattle.std.proofs.lemmas.Int.{ints, to_z-of_z}
use Rattle.pricing.specs.Prices.{above, currency_price}
use Rattle.pricing.proofs.Spans.{product_span, price_span}
use Rattle.pricing.proofs.currency.CurrencyPriceRule.price.Goals as goal

module _ (below product : ℤ) (rate : ℕ)
    (span : nat_abs below ≤ 20000000000) (is : product ≡ pos rate) (most : rate ≤ 220000000) where
  -- the product of the machine's numbers is the product
  product_read : to_z w64 (of_z w64 below) *ℤ to_z w64 (of_z w64 product) ≡ below *ℤ pos rate
  product_read = rw (is, to_z-of_z w64 below (omega (arith, ints)), to_z-of_z w64 (pos rate) (omega (arith, ints)))

  -- the product of the machine's numbers fits
  product_fits : SFits w64 (to_z w64 (of_z w64 below) *ℤ to_z w64 (of_z w64 product))
  product_fits = rw product_read (omega (arith, ints, product_span below rate 20000000000 220000000 span most))

pub returns-then-terms-eq1 : goal.returns-then-terms-eq1
returns-then-terms-eq1 g c =
    let rates = c.args.self.now.rates in
    let rate = rates.preference * rates.expectation in
    let below = c.in_ok-below.below in
    let product = c.product.result in
    let most : rate ≤ 220000000 = omega (arith, ints) in
    let priced = g.P.PriceRule.meaning c.args.self.now.below c.args.terms.now in
    let came : Ok c.in_ok-below.below ≡ priced = search rules in
    let bounded = g.met.P.PriceRule.bounded c.args.self.now.below c.args.terms.now in
    let span = price_span priced came bounded in
    let fits = product_fits below product rate span c.product.ensures.value most in
    let read = product_read below product rate span c.product.ensures.value most in
    let out : SFits w64 c.round_up.result = search rules in
    record {
      answer =
          c.checked.ensures
          ∙ rw (
            to_z-of_z w64 c.round_up.result out,
            c.round_up.ensures.value,
            to_z-of_z w64 _ fits,
            read,
            c.depth-depth.ensures,
            ← came,
            c.if-terms-eq1.true,
          );
      same =
          ap₂ (λ m depth p. currency_price rates.preference rates.expectation (above depth) (m p) p)
          c.price.ensures.same c.price.ensures.same_level;
      same_level = ap above c.price.ensures.same_level;
    }
