-- A zone's number times an energy fits, so does its sum with a price, and the sum is checked.
use Rattle.std.proofs.Common.{◌≡◌, ℕ, ◌^◌, ◌<◌, ◌≤◌, get_or, ℤ, pos, ◌+ℤ◌, ◌*ℤ◌, nat_abs, Ok, ◌∙◌, arith, w64, SFits, to_z, of_z, rules}
use Rattle.std.proofs.lemmas.Int.{ints, to_z-of_z, to_z_pos}
use Rattle.pricing.specs.declared.numbers.ZoneNumbers.{ZoneNumbers}
use Rattle.pricing.proofs.Spans.{product_span, price_span}
use Rattle.pricing.proofs.Zones.{zone_span}
use Rattle.pricing.proofs.place.PlacePriceRule.price.Goals as goal

module _ (zones : ZoneNumbers) (place : ℕ) (number : ℤ) (energy : ℕ)
    (is : number ≡ get_or zones.numbers place (pos 0)) (room : energy < 2 ^ 32) where
  -- the number lies within a thousand
  near : nat_abs number ≤ 1000
  near = rw is (zone_span zones.numbers place zones.in_range)

  -- the product lies within a thousand times the most energy
  product_near : nat_abs (number *ℤ pos energy) ≤ 4294967296000
  product_near = product_span number energy 1000 4294967296 near (omega arith)

  -- the product of the machine's numbers is the product
  product_read : to_z w64 (of_z w64 number) *ℤ to_z w64 energy ≡ number *ℤ pos energy
  product_read = rw (to_z-of_z w64 number (omega (arith, ints, near)), to_z_pos w64 energy (omega arith))

  -- the product of the machine's numbers fits
  product_fits : SFits w64 (to_z w64 (of_z w64 number) *ℤ to_z w64 energy)
  product_fits = rw product_read (omega (arith, ints, product_near))

  module _ (below : ℤ) (span : nat_abs below ≤ 20000000000) where
    -- the sum of the machine's numbers is the sum
    sum_read : to_z w64 (of_z w64 below) +ℤ to_z w64 (of_z w64 (to_z w64 (of_z w64 number) *ℤ to_z w64 energy))
        ≡ below +ℤ (number *ℤ pos energy)
    sum_read =
        rw (
          to_z-of_z w64 (to_z w64 (of_z w64 number) *ℤ to_z w64 energy) product_fits,
          product_read,
          to_z-of_z w64 below (omega (arith, ints)),
        )

    -- the sum of the machine's numbers fits
    sum_fits : SFits w64 (to_z w64 (of_z w64 below) +ℤ to_z w64 (of_z w64 (to_z w64 (of_z w64 number) *ℤ to_z w64 energy)))
    sum_fits = rw sum_read (omega (arith, ints, product_near))

pub overflow_mul-number : goal.overflow_mul-number
overflow_mul-number g c =
    product_fits c.args.self.now.numbers _ c.of_zone-number.result c.args.terms.now.energy
    c.of_zone-number.ensures (search rules)

pub overflow_add-below : goal.overflow_add-below
overflow_add-below g c =
    let priced = g.P.PriceRule.meaning c.args.self.now.below c.args.terms.now in
    let came : Ok c.in_ok-below.below ≡ priced = search rules in
    let bounded = g.met.P.PriceRule.bounded c.args.self.now.below c.args.terms.now in
    sum_fits c.args.self.now.numbers _ c.of_zone-number.result c.args.terms.now.energy
    c.of_zone-number.ensures (search rules) c.in_ok-below.below
    (price_span priced came bounded)

pub returns : goal.returns
returns g c =
    let zones = c.args.self.now.numbers in
    let number = c.of_zone-number.result in
    let energy = c.args.terms.now.energy in
    let below = c.in_ok-below.below in
    let room : energy < 2 ^ 32 = search rules in
    let priced = g.P.PriceRule.meaning c.args.self.now.below c.args.terms.now in
    let came : Ok c.in_ok-below.below ≡ priced = search rules in
    let bounded = g.met.P.PriceRule.bounded c.args.self.now.below c.args.terms.now in
    let span = price_span priced came bounded in
    let fits = sum_fits zones _ number energy c.of_zone-number.ensures room below span in
    let read = sum_read zones _ number energy c.of_zone-number.ensures room below span in
    record {
      answer =
          c.checked.ensures
          ∙ rw (
            to_z-of_z w64 _ fits,
            read,
            c.of_zone-number.ensures,
            c.depth-depth.ensures,
            ← came,
          );
      same = search rules;
      same_level = search rules;
    }
