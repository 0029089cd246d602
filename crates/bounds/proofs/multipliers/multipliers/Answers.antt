-- `multipliers`: each turn narrows once more, between prices of bands.
use Rattle.std.proofs.Common.{◌≡◌, ℕ, zero, suc, ◌+◌, ◌/◌, ◌≤◌, Bool, true, cond, ◌&&◌, eqb, leb, ltb, List, [], ◌∷◌, refl, sym, ap, ◌∙◌, add-one, subst, arith}
use Rattle.std.specs.List.{AllByRecursion as Every, list_all}
use Rattle.std.proofs.lemmas.Bool.{cond_both, le-leb}
use Rattle.clearing.specs.declared.dockets.PricedPackage.{PricedPackage}
use Rattle.clearing.specs.declared.dockets.OpenBand.{OpenBand}
use Rattle.clearing.specs.Choices.{taken, supply}
use Rattle.clearing.specs.Tallies.{row}
use Rattle.clearing.proofs.Filling.{ranges_of}
use Rattle.clearing.proofs.Fits.{OpenRanges, each-most}
use Rattle.clearing.proofs.Rows.{row-each, where_most}
use Rattle.bounds.specs.declared.multipliers.Between.{Between}
use Rattle.bounds.specs.Multipliers.{Multipliers, unit_worth, price_at, middle, oversupplied, narrowed, narrowing, widest}
use Rattle.bounds.specs.Blocks.{fixed}
use Rattle.bounds.proofs.multipliers.multipliers.Goals as goal

-- no turn leaves all
narrowing-none : (bands : List OpenBand) (fixed free : List PricedPackage) (s : Between) → narrowing 0 bands fixed free s ≡ s
unfolding narrowing
narrowing-none bands fixed free s = refl

-- a turn more narrows once more
narrowing_more : (times : ℕ) (bands : List OpenBand) (fixed free : List PricedPackage) (s : Between)
    → narrowing (times + 1) bands fixed free s ≡ narrowed bands fixed free (narrowing times bands fixed free s)
unfolding narrowing
narrowing_more times bands fixed free s = rw (add-one times) refl

-- multipliers are no more than the greatest price
abbrev Priced : Multipliers → Type 0
Priced l = list_all (λ n. leb n 10000000) l ≡ true

-- so each is
priced-at : (l : Multipliers) (m : ℕ) → Priced l → unit_worth l m ≤ 10000000
priced-at l m few = each-most 10000000 l _ few

-- no band in range pays more
price-most : (m amount : ℕ) (bs : List OpenBand) → Every OpenRanges bs → price_at bs m amount ≤ 10000000
price-most m amount [] ranges = omega arith
price-most m amount (b ∷ bs) ranges =
    let here = where_most (eqb b.terms.market m && ltb amount (b.ahead + b.terms.quantity)) b.terms.price 10000000 ranges.0.of_record.price in
    omega (arith, here, price-most m amount bs ranges.1)

-- What multipliers are looked for between is no more than the greatest price.
record Within (s : Between) : Type 0 where
  low : Priced s.low
  high : Priced s.high

-- a row of numbers that are no more is in range
row_priced : (f : ℕ → ℕ) → ((m : ℕ) → f m ≤ 10000000) → Priced (row f 1 5)
row_priced f few = row-each (λ n. leb n 10000000) f 1 5 (λ m. le-leb (f m) 10000000 (few m))

-- half-way is not above it either
middle_few : (s : Between) → Within s → Priced (middle s)
middle_few s within =
    row_priced (λ m. (unit_worth s.low m + unit_worth s.high m) / 2) (λ m. omega (arith, priced-at s.low m within.low, priced-at s.high m within.high))

-- nor is any of two numbers that a test picks
pick-few : (test : Bool) (one other : ℕ) → one ≤ 10000000 → other ≤ 10000000 → cond test one other ≤ 10000000
pick-few test one other few less = cond_both test one other (λ n. n ≤ 10000000) (λ _. few) (λ _. less)

module _ (bands : List OpenBand) (ranges : Every OpenRanges bands) (fixed free : List PricedPackage) where
  -- nor is what bands pay
  widest_few : Within (widest bands fixed free)
  widest_few = record {
    low = row_priced (λ m. price_at bands m (supply m fixed + supply m free)) (λ m. price-most m _ bands ranges);
    high = row_priced (λ m. price_at bands m (supply m fixed)) (λ m. price-most m _ bands ranges);
  }

  -- nor what a turn leaves
  narrowed_few : (s : Between) → Within s → Within (narrowed bands fixed free s)
  narrowed_few s within =
      let over = oversupplied bands fixed free (middle s) in
      let half = λ (m : ℕ). priced-at (middle s) m (middle_few s within) in
      record {
        low = row_priced (λ m. cond (over m) (unit_worth s.low m) (unit_worth (middle s) m)) (λ m. pick-few (over m) _ _ (priced-at s.low m within.low) (half m));
        high = row_priced (λ m. cond (over m) (unit_worth (middle s) m) (unit_worth s.high m)) (λ m. pick-few (over m) _ _ (half m) (priced-at s.high m within.high));
      }

  -- nor any number of turns
  narrowing_few : (times : ℕ) → Within (narrowing times bands fixed free (widest bands fixed free))
  unfolding narrowing
  narrowing_few zero = widest_few
  narrowing_few (suc times) = narrowed_few (narrowing times bands fixed free (widest bands fixed free)) (narrowing_few times)

pub loop-turn-init : goal.loop-turn-init
loop-turn-init c = c.widest-between.ensures.value ∙ sym (narrowing-none _ _ _ _)

pub loop-turn-preserved : goal.loop-turn-preserved
loop-turn-preserved c =
    let d = c.args.docket.now in
    let fixed_ones = fixed d c.args.block in
    let free = taken d.packages c.args.live in
    c.narrowed-between.ensures
    ∙ ap (narrowed d.bands fixed_ones free) c.loop-turn.invariant
    ∙ sym (narrowing_more _ d.bands fixed_ones free _)

pub returns-clause-range : goal.returns-clause-range
returns-clause-range c =
    let d = c.args.docket.now in
    let fixed_ones = fixed d c.args.block in
    let free = taken d.packages c.args.live in
    let within = narrowing_few d.bands (ranges_of d.bands c.widest-between.ensures.ranged.bands) fixed_ones free c.loop-turn._turn in
    subst Priced (sym c.middle.ensures) (middle_few c.loop-turn.between (subst Within (sym c.loop-turn.invariant) within))
