-- What a supply adds to a greater one brings no more than what it adds to a smaller one, since later units go to bands of lower prices.
use Rattle.std.proofs.Common.{◌≡◌, ℕ, zero, suc, ◌+◌, ◌≤◌, min, true, List, arith, cond}
use Rattle.std.specs.List.{AllByRecursion as Every}
use Rattle.clearing.specs.declared.dockets.OpenBand.{OpenBand}
use Rattle.clearing.specs.Bands.{rising, aheads, true_aheads}
use Rattle.clearing.specs.Lawful.{market_income, income}
use Rattle.clearing.proofs.Fits.{OpenRanges}
use Rattle.clearing.proofs.FillingSums.{all_of, over, over_none, over-plus, wanted}
use Rattle.clearing.proofs.FillingOrder.{at_least}
use Rattle.clearing.proofs.Filling.{pay_cut, pay_whole, pay_more, pay_nothing, filled_of, filled-front}

-- two lists of sales come together to no more of an amount than two others
abbrev Fewer : List OpenBand → List ℕ → List ℕ → List ℕ → List ℕ → (OpenBand → ℕ → ℕ) → Type 0
Fewer bs one other more less f = over f bs one + over f bs other ≤ over f bs more + over f bs less

module _ (bs : List OpenBand) (one other more less : List ℕ) where
  -- so it is of nothing
  fewer_none : (f : OpenBand → ℕ → ℕ) → Every (λ b. (s : ℕ) → f b s ≡ 0) bs → Fewer bs one other more less f
  fewer_none f none = omega (arith, over_none f bs one none, over_none f bs other none)

  -- and of two such amounts together
  fewer_plus : (f g h : OpenBand → ℕ → ℕ) → Every (λ b. (s : ℕ) → h b s ≡ f b s + g b s) bs
      → Fewer bs one other more less f → Fewer bs one other more less g → Fewer bs one other more less h
  fewer_plus f g h both left right =
      omega (arith, over-plus f g h bs one both, over-plus f g h bs other both, over-plus f g h bs more both, over-plus f g h bs less both)

-- of a limit on each: what is added to the greater of two numbers counts no more
least_more : (x y a w xa ya : ℕ) → xa ≡ x + a → ya ≡ y + a → y ≤ x → min xa w + min y w ≤ min x w + min ya w
least_more x y a w xa ya more after less = omega arith

module _ (bs : List OpenBand) (rise : rising bs ≡ true) (ahead : aheads bs ≡ true_aheads bs) (ranges : Every OpenRanges bs)
    (x y a xa ya : ℕ → ℕ) (more : (m : ℕ) → xa m ≡ x m + a m) (after : (m : ℕ) → ya m ≡ y m + a m) (less : (m : ℕ) → y m ≤ x m) where
  -- the sales of the two supplies with what is added to the greater, and without what is added to the smaller, are fewer
  abbrev Added : (OpenBand → ℕ → ℕ) → Type 0
  Added = Fewer bs (filled_of xa bs) (filled_of y bs) (filled_of x bs) (filled_of ya bs)

  -- of what has at least a price in a market
  front-added : (m p : ℕ) → Added (λ b s. cond (at_least m p b) s 0)
  front-added m p =
      let sold = λ (amount : ℕ → ℕ). filled-front bs amount rise ahead ranges m p in
      omega (arith, sold xa, sold y, sold x, sold ya, least_more (x m) (y m) (a m) (wanted (at_least m p) bs) (xa m) (ya m) (more m) (after m) (less m))

  -- of a market at cut prices, by the bands of at least each price
  cut_added : (m p : ℕ) → Added (pay_cut m p)
  cut_added m zero = fewer_none bs _ _ _ _ (pay_cut m 0) (all_of _ (pay_nothing m) bs)
  cut_added m (suc p) =
      fewer_plus bs _ _ _ _ (pay_cut m p) (λ b s. cond (at_least m (suc p) b) s 0) (pay_cut m (suc p)) (all_of _ (pay_more m p) bs)
      (cut_added m p) (front-added m (suc p))

  -- of a market's income
  market_income-added : (m : ℕ) → market_income bs (filled_of xa bs) m + market_income bs (filled_of y bs) m ≤ market_income bs (filled_of x bs) m + market_income bs (filled_of ya bs) m
  market_income-added m =
      let whole = λ (amount : ℕ → ℕ). pay_whole m bs (filled_of amount bs) ranges in
      omega (arith, whole xa, whole y, whole x, whole ya, cut_added m 10000000)

  -- and of the income of all markets
  pub income-added : income bs (filled_of xa bs) + income bs (filled_of y bs) ≤ income bs (filled_of x bs) + income bs (filled_of ya bs)
  income-added = omega (arith, market_income-added 1, market_income-added 2, market_income-added 3, market_income-added 4, market_income-added 5)
