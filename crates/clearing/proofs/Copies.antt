-- How a list fills with the open records of a register: what stands in it after so many entries.
use Rattle.std.specs.List.{list_all}
use Rattle.std.proofs.Common.{◌≡◌, ℕ, ◌+◌, ◌<◌, ◌≤◌, Bool, true, List, [], ◌∷◌, ◌++◌, map, length, get_or, sym, ap, ◌∙◌, subst, arith}
use Rattle.std.proofs.lemmas.List.{map_push, length_push}
use Rattle.offers.specs.declared.registers.Entry.{Entry}
use Rattle.offers.specs.declared.registers.Entry.TheVariants.{Vacant, Open}
use Rattle.clearing.specs.Bands.{Numbered}
use Rattle.clearing.proofs.Fits.{each_push}
use Rattle.clearing.proofs.Openings.{opened, one_opened, none_opened}

-- At most so many stand in it, each passes a test, and they are what is made of the open records.
pub record Copied {R X : Type 0} (test : X → Bool) (f : Numbered R → X) (es : List (Entry R)) (i : ℕ) (v : List X) : Type 0 where
  pub few : length v ≤ i
  pub fit : list_all test v ≡ true
  pub holds : v ≡ map f (opened es i)

module _ {R X : Type 0} (test : X → Bool) (f : Numbered R → X) (es : List (Entry R)) (v : List X)
    (i : ℕ) (inside : i < length es) (ok : Copied test f es i v) (w : List X) where
  -- an entry that is not open puts none in
  pub none_more : ((r : R) → get_or es i Vacant ≡ Open r → ⊥) → w ≡ v → Copied test f es (i + 1) w
  none_more shut e =
      subst (Copied test f es (i + 1)) (sym e)
      (record { few = omega arith; fit = ok.fit; holds = ok.holds ∙ ap (map f) (sym (none_opened es i inside shut)) })

  -- an open entry puts one in that passes
  pub one_more : (r : R) (x : X) → get_or es i Vacant ≡ Open r → x ≡ f (record { number = i + 1; terms = r }) → test x ≡ true
      → w ≡ v ++ x ∷ [] → Copied test f es (i + 1) w
  one_more r x is made pass items = record {
    few = omega (arith, ap length items, length_push v x, ok.few);
    fit = rw items (each_push test v x ok.fit pass);
    holds =
        items
        ∙ ap (λ xs. xs ++ x ∷ []) ok.holds
        ∙ ap (λ y. map f (opened es i) ++ y ∷ []) made
        ∙ sym (ap (map f) (one_opened es i inside r is) ∙ map_push f (opened es i) (record { number = i + 1; terms = r }));
  }
