-- The rules over a tally's rows and the sales say the same as those over what a choice takes and the filled sales.
use Rattle.std.proofs.Common.{◌≡◌, ℕ, ◌+◌, ◌-◌, ◌*◌, ◌≤◌, eqb, List, [], ◌∷◌, map, get_or, pos, ◌-ℤ◌, refl, ap, ◌∙◌, arith, w64, to_z, of_z, cond}
use Rattle.std.proofs.lemmas.Int.{ints}
use Rattle.clearing.specs.declared.dockets.PricedPackage.{PricedPackage}
use Rattle.clearing.specs.declared.dockets.OpenBand.{OpenBand}
use Rattle.clearing.specs.declared.tallies.Tally.{Tally}
use Rattle.clearing.specs.declared.sales.Sales.{Sales}
use Rattle.clearing.specs.Choices.{taken, supply, dated}
use Rattle.clearing.specs.Kept.{Share, PairsKept, ExclusionsKept, ZonesKept, DatesKept}
use Rattle.clearing.specs.Lawful.{View, sold, income, percentage, Lawful, filled_sales}
use Rattle.clearing.specs.Ranged.{Ranged}
use Rattle.clearing.specs.Sales.{filled, sold_in, sales_of}
use Rattle.clearing.specs.Tallies.{row, tally_of}
use Rattle.clearing.proofs.Filling.{filled_small}
use Rattle.clearing.proofs.Incomes.{income-filled}
use Rattle.clearing.proofs.RowRules.{Same, all_both, row_at, pairs-same, exclusions-same, zones-same}
use Rattle.clearing.proofs.Tallying.{Priced}
use Rattle.clearing.proofs.Sellings.{Sold}

-- what is sold in a market, with the sales in a list
sold-filled : (supply : List ℕ) (bs : List OpenBand) (m : ℕ) → sold_in bs supply m ≡ sold bs (map (filled supply) bs) m
sold-filled supply [] m = refl
sold-filled supply (b ∷ bs) m =
    ap (λ n. cond (eqb b.terms.market m) (filled supply b) 0 + n) (sold-filled supply bs m)

-- The rules as they are tested over a tally and what is sold by market.
pub record Ruled (v : View) (t : Tally) (s : Sales) : Type 0 where
  pub pairs : PairsKept v.pairs t.takes t.takes
  pub exclusions : ExclusionsKept v.exclusions t.takes
  pub zones : ZonesKept v.limits t.nameplate t.export
  pub dates : DatesKept v.limits t s.sold

module _ {d : View} (ok : Ranged d) (choice : ℕ) where
  -- what the choice takes
  abbrev chosen : List PricedPackage
  chosen = taken d.packages choice

  -- the sales that fill the bands
  abbrev sales : List ℕ
  sales = filled_sales d choice

  module _ (t : Tally) (s : Sales) (counted : t ≡ tally_of chosen) (filled-so : s ≡ sales_of d.bands t.supply) where
    -- what is sold in a market stands at its place
    sold-is : (m : ℕ) → 1 ≤ m → m ≤ 5 → get_or s.sold (m - 1) 0 ≡ sold d.bands sales m
    sold-is m low high =
        ap (λ s. get_or s.sold (m - 1) 0) filled-so
        ∙ row_at (sold_in d.bands t.supply) 5 m low high
        ∙ sold-filled t.supply d.bands m
        ∙ ap (λ t. sold d.bands (map (filled t.supply) d.bands) m) counted

    -- and what they bring is the income of all markets
    pub income-is : s.income ≡ income d.bands sales
    income-is =
        ap (λ s. s.income) filled-so
        ∙ income-filled t.supply d.bands
        ∙ ap (λ t. income d.bands (map (filled t.supply) d.bands)) counted

    -- a share of what is sold in a market says the same over both, where a row has the dated supply at its place
    pub share-same : (xs : List ℕ) (f : ℕ → ℕ) (percent m : ℕ) → xs ≡ row f 1 5 → 1 ≤ m → m ≤ 5
        → Same (Share percent xs s.sold m) (100 * f m ≤ percent * sold d.bands sales m)
    share-same xs f percent m is low high =
        let amount = ap (λ ys. get_or ys (m - 1) 0) is ∙ row_at f 5 m low high in
        let all = ap (λ n. percent * n) (sold-is m low high) in
        ((λ h. omega arith), (λ h. omega arith))

    -- so does the share of what is dated before
    before_same : (percent m : ℕ) → 1 ≤ m → m ≤ 5
        → Same (Share percent t.before s.sold m) (100 * dated 1 m chosen ≤ percent * sold d.bands sales m)
    before_same percent m low high = share-same t.before (λ m. dated 1 m chosen) percent m (ap (λ t. t.before) counted) low high

    -- and of what is dated after
    after_same : (percent m : ℕ) → 1 ≤ m → m ≤ 5
        → Same (Share percent t.after s.sold m) (100 * dated 2 m chosen ≤ percent * sold d.bands sales m)
    after_same percent m low high = share-same t.after (λ m. dated 2 m chosen) percent m (ap (λ t. t.after) counted) low high

    -- a choice that keeps the rules is lawful with the filled sales, if no market sells more than its supply
    pub lawful-from : ((m : ℕ) → sold d.bands sales m ≤ supply m chosen) → Ruled d t s → Lawful d choice sales
    lawful-from within rules =
        let zones = (all_both _ _ d.limits).0 ((zones-same chosen t counted d.limits ok.limits).0 rules.zones) in
        let percent = percentage d.limits in
        record {
          within_quantities = filled_small (row (λ m. supply m chosen) 1 5) d.bands;
          within_supply = within;
          pairs = (pairs-same chosen t counted chosen t counted d.pairs ok.pairs).0 rules.pairs;
          exclusions = (exclusions-same chosen t counted d.exclusions ok.exclusions).0 rules.exclusions;
          interconnection = zones.0;
          export = zones.1;
          power_before = λ m low high. (before_same (percent 1) m low (omega arith)).0 (rules.dates.power_before m low high);
          power_after = λ m low high. (after_same (percent 2) m low (omega arith)).0 (rules.dates.power_after m low high);
          certificates_before = (before_same (percent 3) 5 (omega arith) (omega arith)).0 rules.dates.certificates_before;
          certificates_after = (after_same (percent 4) 5 (omega arith) (omega arith)).0 rules.dates.certificates_after;
        }

    -- and a choice that is lawful with them keeps the rules
    pub ruled_from : Lawful d choice sales → Ruled d t s
    ruled_from lawful =
        let percent = percentage d.limits in
        record {
          pairs = (pairs-same chosen t counted chosen t counted d.pairs ok.pairs).1 lawful.pairs;
          exclusions = (exclusions-same chosen t counted d.exclusions ok.exclusions).1 lawful.exclusions;
          zones = (zones-same chosen t counted d.limits ok.limits).1 ((all_both _ _ d.limits).1 (lawful.interconnection, lawful.export));
          dates = record {
            power_before = λ m low high. (before_same (percent 1) m low (omega arith)).1 (lawful.power_before m low high);
            power_after = λ m low high. (after_same (percent 2) m low (omega arith)).1 (lawful.power_after m low high);
            certificates_before = (before_same (percent 3) 5 (omega arith) (omega arith)).1 lawful.certificates_before;
            certificates_after = (after_same (percent 4) 5 (omega arith) (omega arith)).1 lawful.certificates_after;
          };
        }

-- an income less a cost has room in 64 bits, and so is stored as it is
pub worth-stored : (t : Tally) (s : Sales) → Priced t → Sold s
    → to_z w64 (of_z w64 (to_z w64 s.income -ℤ to_z w64 (of_z w64 t.cost))) ≡ pos s.income -ℤ t.cost
worth-stored t s priced sold = omega (arith, ints, priced.low, priced.high, sold.income)
