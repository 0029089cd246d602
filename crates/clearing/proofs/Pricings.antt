-- The prices of a register's open packages, one entry after another.
use Rattle.std.specs.List.{list_all}
use Rattle.std.proofs.Common.{◌≡◌, ℕ, zero, suc, ◌+◌, ◌-◌, ◌<◌, true, ◌≢◌, List, [], ◌∷◌, map, length, get_or, set, ℤ, pos, Ok, Err, sym, refl, ap, ◌∙◌, add-zero, arith, length-set, get_or-set_other, get_or-set_same, below_more}
use Rattle.offers.specs.declared.records.Package.{Package}
use Rattle.offers.specs.declared.registers.Entry.{Entry}
use Rattle.offers.specs.declared.registers.Entry.TheVariants.{Vacant, Open, Withdrawn}
use Rattle.pricing.specs.declared.rules.Fault.{Fault}
use Rattle.clearing.specs.declared.dockets.PricedPackage.{PricedPackage}
use Rattle.clearing.specs.Bands.{Numbered}
use Rattle.clearing.specs.Closing.{open_from, no_price, followed_by, priced_as, priced}
use Rattle.pricing.specs.Prices.{Meaning}
use Rattle.clearing.specs.Ranges.{price_fits}
use Rattle.clearing.proofs.Fits.{each_set}

-- an open package with the price that stands at its place
abbrev pub at_price : List ℤ → Numbered Package → PricedPackage
at_price prices p = record { number = p.number; price = get_or prices (p.number - 1) (pos 0); terms = p.terms }

-- the price at the place of each open package among the first so many entries is the one that a rule means
abbrev pub PricedTo : Meaning → List (Entry Package) → ℕ → List ℤ → Type 0
PricedTo meaning es i prices = (k : ℕ) → k < i → (p : Package) → get_or es k Vacant ≡ Open p → meaning p ≡ Ok (get_or prices k (pos 0))

-- the same of all entries
abbrev pub AllPriced : Meaning → List (Entry Package) → List ℤ → Type 0
AllPriced meaning es prices = (k : ℕ) (p : Package) → get_or es k Vacant ≡ Open p → meaning p ≡ Ok (get_or prices k (pos 0))

module _ (meaning : Meaning) where
  -- each open package with its price, where each has one
  priced-from : (price : ℕ → ℤ) (n : ℕ) (es : List (Entry Package))
      → ((k : ℕ) (p : Package) → get_or es k Vacant ≡ Open p → meaning p ≡ Ok (price (n + k)))
      → priced meaning (open_from n es) ≡ Ok (map (λ p. record { number = p.number; price = price p.number; terms = p.terms }) (open_from n es))
  priced-from price n [] so = refl
  priced-from price n (Vacant ∷ es) so =
      priced-from price (n + 1) es (λ k p is. so (suc k) p is ∙ ap (λ m. Ok (price m)) (omega arith))
  priced-from price n (Open p ∷ es) so =
      let here : meaning p ≡ Ok (price n) = so 0 p refl ∙ ap (λ m. Ok (price m)) (add-zero n) in
      ap (λ answer. priced_as (record { number = n; terms = p }) answer (priced meaning (open_from (n + 1) es))) here
      ∙ ap (followed_by (record { number = n; price = price n; terms = p }))
      (priced-from price (n + 1) es (λ k p is. so (suc k) p is ∙ ap (λ m. Ok (price m)) (omega arith)))
  priced-from price n (Withdrawn p ∷ es) so =
      priced-from price (n + 1) es (λ k p is. so (suc k) p is ∙ ap (λ m. Ok (price m)) (omega arith))

  -- each open package of a register with the price at its place
  pub priced_all : (es : List (Entry Package)) (prices : List ℤ) → AllPriced meaning es prices
      → priced meaning (open_from 1 es) ≡ Ok (map (at_price prices) (open_from 1 es))
  priced_all es prices so =
      priced-from (λ n. get_or prices (n - 1) (pos 0)) 1 es (λ k p is. so k p is ∙ ap (λ m. Ok (get_or prices m (pos 0))) (omega arith))

  -- the first open package without a price refuses
  refused_from : (n : ℕ) (es : List (Entry Package)) (i : ℕ) (p : Package) (fault : Fault)
      → ((k : ℕ) → k < i → (q : Package) → get_or es k Vacant ≡ Open q → (z : ℤ) × (meaning q ≡ Ok z))
      → get_or es i Vacant ≡ Open p → meaning p ≡ Err fault → priced meaning (open_from n es) ≡ Err (no_price (n + i) fault)
  refused_from n [] i p fault so is none = absurd (grind arith)
  refused_from n (Vacant ∷ es) zero p fault so is none = absurd (grind arith)
  refused_from n (Vacant ∷ es) (suc i) p fault so is none =
      refused_from (n + 1) es i p fault (λ k h. so (suc k) (omega arith)) is none ∙ ap (λ m. Err (no_price m fault)) (omega arith)
  refused_from n (Open q ∷ es) zero p fault so is none =
      let same : q ≡ p = cc in
      ap (λ answer. priced_as (record { number = n; terms = q }) answer (priced meaning (open_from (n + 1) es))) (ap meaning same ∙ none)
      ∙ ap (λ m. Err (no_price m fault)) (sym (add-zero n))
  refused_from n (Open q ∷ es) (suc i) p fault so is none =
      let here = so 0 (omega arith) q refl in
      ap (λ answer. priced_as (record { number = n; terms = q }) answer (priced meaning (open_from (n + 1) es))) here.1
      ∙ ap (followed_by (record { number = n; price = here.0; terms = q }))
      (refused_from (n + 1) es i p fault (λ k h. so (suc k) (omega arith)) is none)
      ∙ ap (λ m. Err (no_price m fault)) (omega arith)
  refused_from n (Withdrawn q ∷ es) zero p fault so is none = absurd (grind arith)
  refused_from n (Withdrawn q ∷ es) (suc i) p fault so is none =
      refused_from (n + 1) es i p fault (λ k h. so (suc k) (omega arith)) is none ∙ ap (λ m. Err (no_price m fault)) (omega arith)

  -- so does the open package at a place, where those before it have prices
  pub refused_at : (es : List (Entry Package)) (prices : List ℤ) (i : ℕ) (p : Package) (fault : Fault) → PricedTo meaning es i prices
      → get_or es i Vacant ≡ Open p → meaning p ≡ Err fault → priced meaning (open_from 1 es) ≡ Err (no_price (i + 1) fault)
  refused_at es prices i p fault so is none =
      refused_from 1 es i p fault (λ k h q there. (get_or prices k (pos 0), so k h q there)) is none
      ∙ ap (λ m. Err (no_price m fault)) (omega arith)

-- The prices so far are in range and those that a rule means, and the rule still means what it meant.
pub record Pricing (meaning now : Meaning) (es : List (Entry Package)) (i : ℕ) (prices : List ℤ) : Type 0 where
  pub long : length prices ≡ length es
  pub fit : list_all price_fits prices ≡ true
  pub same : now ≡ meaning
  pub so : PricedTo meaning es i prices

module _ (meaning now : Meaning) (es : List (Entry Package)) (i : ℕ) (prices : List ℤ) (before : Pricing meaning now es i prices) where
  -- an entry that is not open
  pub none_priced : (next : List ℤ) (later : Meaning) → ((p : Package) → get_or es i Vacant ≡ Open p → ⊥) → next ≡ prices → later ≡ now
      → Pricing meaning later es (i + 1) next
  none_priced next later shut e same = record {
    long = ap length e ∙ before.long;
    fit = rw e before.fit;
    same = same ∙ before.same;
    so = rw e (below_more _ i before.so (λ p is. absurd (shut p is)));
  }

  -- an open entry
  pub one_priced : (p : Package) (price : ℤ) (next : List ℤ) (later : Meaning) → i < length es → get_or es i Vacant ≡ Open p
      → Ok price ≡ now p → price_fits price ≡ true → next ≡ set prices i price → later ≡ now → Pricing meaning later es (i + 1) next
  one_priced p price next later inside is answer fits e same = record {
    long = ap length e ∙ length-set prices i price ∙ before.long;
    fit = rw e (each_set price_fits prices i price fits before.fit);
    same = same ∙ before.same;
    so =
        rw e (below_more _ i
        (λ k h q there. let other : k ≢ i = omega arith in before.so k h q there ∙ ap Ok (sym (get_or-set_other prices i k price (pos 0) other)))
        (λ q there.
        let one : q ≡ p = cc in
        ap (λ m. m q) (sym before.same) ∙ ap now one ∙ sym answer ∙ ap Ok (sym (get_or-set_same prices i price (pos 0) (omega (arith, before.long))))));
  }
