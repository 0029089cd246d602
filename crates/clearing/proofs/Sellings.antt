-- What the bands are sold, one band after another.
use Rattle.std.specs.List.{list_all}
use Rattle.std.proofs.Common.{◌≡◌, ℕ, ◌+◌, ◌-◌, ◌*◌, ◌<◌, ◌≤◌, true, eqb, leb, List, [], ◌∷◌, ◌++◌, map, length, get_or, take, set, sym, ap, ◌∙◌, subst, ap₂, mul-le-mul, arith, cond}
use Rattle.std.proofs.lemmas.List.{length-take, take_more}
use Rattle.clearing.specs.declared.dockets.OpenBand.{OpenBand}
use Rattle.clearing.specs.declared.sales.Sales.{Sales}
use Rattle.clearing.specs.Lawful.{View}
use Rattle.clearing.specs.Ranged.{Ranged}
use Rattle.clearing.specs.Ranges.{band_fits}
use Rattle.clearing.specs.Sales.{filled, sold_in, sales_of}
use Rattle.clearing.specs.Tallies.{row}
use Rattle.clearing.proofs.Fits.{each_take, each-most, OpenRanges, open_ranges}
use Rattle.clearing.proofs.Filling.{filled_small}
use Rattle.clearing.proofs.Held.{no_band, band_ranged}
use Rattle.clearing.proofs.Incomes.{income-few, income-filled, income-last}
use Rattle.clearing.proofs.Rows.{length-row, plus_one, plus_where, where_most}
use Rattle.clearing.proofs.Totals.{totals_append, totals_most}

-- sales with so much more to a band
abbrev pub with_sale : Sales → OpenBand → ℕ → Sales
with_sale s b n = record {
  sold = set s.sold (b.terms.market - 1) (get_or s.sold (b.terms.market - 1) 0 + n);
  income = s.income + n * b.terms.price;
}

-- No more is sold in a market, and no more is paid, than 64 bands can be sold and can pay.
pub record Sold (s : Sales) : Type 0 where
  pub sold : list_all (λ n. leb n 6400000000) s.sold ≡ true
  pub income : s.income ≤ 64000000000000000

module _ (supply : List ℕ) where
  -- what a band is sold in a market
  abbrev sold_amount : ℕ → OpenBand → ℕ
  sold_amount m b = cond (eqb b.terms.market m) (filled supply b) 0

  -- a band is sold no more than its quantity
  pub filled-most : (b : OpenBand) → OpenRanges b → filled supply b ≤ 100000000
  filled-most b r = omega arith

  -- and pays no more than that at the greatest price
  pub paid-most : (b : OpenBand) → OpenRanges b → filled supply b * b.terms.price ≤ 1000000000000000
  paid-most b r = mul-le-mul (filled-most b r) r.of_record.price

  -- what is sold with one band more is added at its market's place
  pub sales_last : (bs : List OpenBand) (b : OpenBand) → OpenRanges b → with_sale (sales_of bs supply) b (filled supply b) ≡ sales_of (bs ++ b ∷ []) supply
  sales_last bs b r =
      let before = row (sold_in bs supply) 1 5 in
      let market = b.terms.market in
      let long = length-row (sold_in bs supply) 1 5 in
      let here = λ (m : ℕ). cond (eqb market m) (filled supply b) 0 in
      let sold : set before (market - 1) (get_or before (market - 1) 0 + filled supply b) ≡ row (sold_in (bs ++ b ∷ []) supply) 1 5 =
      plus_one before market (filled supply b) 1 5 (market - 1) long (omega arith) (omega arith)
      ∙ sym (plus_where true before here 1 5 long)
      ∙ sym (totals_append sold_amount bs (b ∷ []) 1 5) in
      λ i. record { sold = sold i; income = sym (income-last supply bs b r) i }

  -- what at most 64 bands in range are sold
  pub sales-bounded : (bs : List OpenBand) → list_all band_fits bs ≡ true → length bs ≤ 64 → Sold (sales_of bs supply)
  sales-bounded bs ok short = record {
    sold =
        totals_most band_fits sold_amount 64 100000000 6400000000 bs 1 5
        (λ m b e. where_most _ (filled supply b) 100000000 (filled-most b (open_ranges b e))) ok short (omega arith);
    income = omega (arith, income-filled supply bs, income-few bs (map (filled supply) bs) ok (filled_small supply bs));
  }

  -- so with all bands of a docket
  pub sold_in_all : {d : View} → Ranged d → Sold (sales_of d.bands supply)
  sold_in_all {d} ok = sales-bounded d.bands ok.bands (omega (arith, ok.few_bands))

-- What a turn over the bands has room for, and what it leaves: the band is at place i, and is sold so much.
pub record Turn (supply : List ℕ) (bs : List OpenBand) (i : ℕ) (before : Sales) (sold : ℕ) : Type 0 where
  pub market_least : 1 ≤ (get_or bs i no_band).terms.market
  pub market : (get_or bs i no_band).terms.market ≤ 5
  pub sum : get_or before.sold ((get_or bs i no_band).terms.market - 1) 0 + sold ≤ 6500000000
  pub paid : sold * (get_or bs i no_band).terms.price ≤ 1000000000000000
  pub income : before.income + sold * (get_or bs i no_band).terms.price ≤ 65000000000000000
  pub next : with_sale before (get_or bs i no_band) sold ≡ sales_of (take (i + 1) bs) supply

-- of a docket's bands, after the sales to those before the place
pub turn : {d : View} → Ranged d → (supply : List ℕ) (bs : List OpenBand) (i : ℕ) (before : Sales) (sold : ℕ) → bs ≡ d.bands → i < length bs
    → before ≡ sales_of (take i bs) supply → sold ≡ filled supply (get_or bs i no_band) → Turn supply bs i before sold
turn {d} ok supply bs i before sold held inside so_far is =
    let b = get_or bs i no_band in
    let ranges = band_ranged ok i bs held inside in
    let few : length (take i bs) ≤ 64 = simp length-take (omega (arith, ap length held, ok.few_bands)) in
    let bounds = subst Sold (sym so_far) (sales-bounded supply (take i bs) (each_take band_fits i bs (rw held ok.bands)) few) in
    let most = filled-most supply b ranges in
    let dear = paid-most supply b ranges in
    let same = ap (λ n. n * b.terms.price) is in
    record {
      market_least = ranges.of_record.market_least;
      market = ranges.of_record.market;
      sum = omega (arith, each-most 6400000000 before.sold (b.terms.market - 1) bounds.sold);
      paid = omega arith;
      income = omega (arith, bounds.income);
      next = ap₂ (λ s n. with_sale s b n) so_far is ∙ sales_last supply (take i bs) b ranges ∙ ap (λ cs. sales_of cs supply) (sym (take_more bs i no_band inside));
    }
