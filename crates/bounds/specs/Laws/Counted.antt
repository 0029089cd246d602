-- What a block costs at least, counted package by package in the order of their places: those that are free, those that the digits take,
-- and none of the others.
use Rattle.std.specs.Prelude.{◌≡◌, ℕ, suc, ◌+◌, ◌-◌, ◌*◌, ◌/◌, ◌%◌, ◌<◌, ◌≤◌, Bool, true, false, List, ◌∷◌, length, get_or, drop, ℤ, pos, ◌+ℤ◌, neg_ℤ, ◌≤ℤ◌, ◌==◌, slice_index_or}
use Rattle.std.proofs.Common.{sym, ap, ap₂, ◌∙◌, arith}
use Rattle.std.specs.Int.{int_min}
use Rattle.std.proofs.lemmas.List.{at_drop_more, at_drop_all}
use Rattle.std.proofs.lemmas.Int.{ints, clamps}
use Rattle.pricing.specs.Prices.{least, greatest}
use Rattle.clearing.specs.declared.dockets.PricedPackage.{PricedPackage}
use Rattle.clearing.proofs.Fits.{PricedRanges}
use Rattle.bounds.specs.Blocks.{Span}
use Rattle.bounds.specs.Laws.AllIn.{price_if, least_cost}

-- The packages before a place counted: no more than the greatest price for each, either way, and with what is left the whole.
pub record Counted (b : Span) (items : List PricedPackage) (i : ℕ) (so_far : ℤ) (digits : ℕ) : Type 0 where
  pub low : neg_ℤ (pos (20000000000 * i)) ≤ℤ so_far
  pub high : so_far ≤ℤ pos (20000000000 * i)
  pub whole : so_far +ℤ least_cost (b.free - i) digits (drop i items) ≡ least_cost b.free b.first items

module _ (b : Span) (items : List PricedPackage) where
  -- at the start none is
  pub counted_none : Counted b items 0 (pos 0) b.first
  counted_none =
      let all : least_cost (b.free - 0) b.first items ≡ least_cost b.free b.first items = ap (λ k. least_cost k b.first items) (omega arith) in
      record { low = omega (arith, ints); high = omega (arith, ints); whole = omega (arith, ints, all) }

  -- at the end all are
  pub counted_all : (i : ℕ) (so_far : ℤ) (digits : ℕ) → length items ≤ i → Counted b items i so_far digits → so_far ≡ least_cost b.free b.first items
  counted_all i so_far digits past now =
      omega (arith, ints, now.whole, at_drop_all (least_cost (b.free - i) digits) items i past)

  module _ (i : ℕ) (so_far : ℤ) (digits : ℕ) (d : PricedPackage) (inside : i < length items) (now : Counted b items i so_far digits)
      (ranges : PricedRanges (slice_index_or items i d)) (next : ℤ) where
    -- what is left, by the package at the place
    first_left : (k : ℕ) → b.free - i ≡ k → least_cost (b.free - i) digits (drop i items) ≡ least_cost k digits (slice_index_or items i d ∷ drop (i + 1) items)
    first_left k is =
        at_drop_more (least_cost (b.free - i) digits) items i d inside
        ∙ ap (λ k. least_cost k digits (slice_index_or items i d ∷ drop (i + 1) items)) is

    -- a free package counts what is below 0 of its price
    pub counted_free : i < b.free → next ≡ so_far +ℤ int_min (get_or items i d).price (pos 0) → Counted b items (i + 1) next (digits / 2)
    counted_free free is =
        let first = first_left (suc (b.free - (i + 1))) (omega arith) in
        record {
          low = omega (arith, ints, clamps, now.low, ranges.price_least);
          high = omega (arith, ints, clamps, now.high);
          whole = omega (arith, ints, now.whole, first);
        }

    -- any other its price where it is taken
    pub counted-fixed : b.free ≤ i → (one : Bool) → (digits % 2 == 1) ≡ one → next ≡ so_far +ℤ price_if one (get_or items i d).price → Counted b items (i + 1) next (digits / 2)
    counted-fixed fixed one digit is =
        let after : b.free - (i + 1) ≡ 0 = omega arith in
        let first = first_left 0 (omega arith) ∙ ap₂ (λ one k. price_if one (get_or items i d).price +ℤ least_cost k (digits / 2) (drop (i + 1) items)) digit (sym after) in
        let between = price_between one in
        record {
          low = omega (arith, ints, now.low, between.0);
          high = omega (arith, ints, now.high, between.1);
          whole = omega (arith, ints, now.whole, first);
        }
      where
        -- which is in range
        price_between : (one : Bool) → (least ≤ℤ price_if one (get_or items i d).price) × (price_if one (get_or items i d).price ≤ℤ greatest)
        price_between true = (ranges.price_least, ranges.price)
        price_between false = (omega (arith, ints), omega (arith, ints))
