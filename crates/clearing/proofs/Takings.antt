-- What a choice takes of the packages, one after another, and that its sums are bounded.
use Rattle.std.specs.List.{list_all}
use Rattle.std.proofs.Common.{◌≡◌, ℕ, suc, ◌+◌, ◌/◌, ◌%◌, ◌<◌, ◌≤◌, Bool, true, eqb, List, [], ◌∷◌, length, get_or, take, Bor, sym, refl, ap, ◌∙◌, arith, length-take}
use Rattle.std.proofs.lemmas.List.{take_more}
use Rattle.std.specs.Iterator.{YieldsFirstBy}
use Rattle.std.proofs.lemmas.Iterator.{YieldsList}
use Rattle.std.proofs.lemmas.Iterator.Consumers.{YieldsList-from_first}
use Rattle.std.proofs.lemmas.Int.{ints}
use Rattle.std.proofs.lemmas.Bool.{and_parts, and_from, cond_both}
use Rattle.clearing.specs.declared.dockets.PricedPackage.{PricedPackage}
use Rattle.clearing.specs.declared.choices.Taken.{Taken}
use Rattle.clearing.specs.Choices.{taken, still_taken}
use Rattle.clearing.specs.Lawful.{View}
use Rattle.clearing.specs.Ranged.{Ranged}
use Rattle.clearing.specs.Ranges.{package_fits}
use Rattle.clearing.specs.Tallies.{Room, tally_of, added}
use Rattle.clearing.proofs.Fits.{each_item, each_take}
use Rattle.clearing.proofs.Tallying.{tally_last, Bounded, tally_bounded, cost_between, Priced, room_for}

-- what is taken of packages in range is in range
pub taken-fits : (f : PricedPackage → Bool) (ps : List PricedPackage) (choice : ℕ) → list_all f ps ≡ true → list_all f (taken ps choice) ≡ true
taken-fits f [] choice ok = refl
taken-fits f (p ∷ ps) choice ok =
    let parts = and_parts (f p) (list_all f ps) ok in
    let rest = taken-fits f ps (choice / 2) parts.1 in
    cond_both (eqb (choice % 2) 1) _ _ (λ qs. list_all f qs ≡ true) (λ _. and_from (f p) _ parts.0 rest) (λ _. rest)

-- no more are taken than there are
pub taken-few : (ps : List PricedPackage) (choice : ℕ) → length (taken ps choice) ≤ length ps
taken-few [] choice = omega arith
taken-few (p ∷ ps) choice =
    let rest = taken-few ps (choice / 2) in
    cond_both (eqb (choice % 2) 1) _ _ (λ qs. length qs ≤ suc (length ps)) (λ _. omega arith) (λ _. omega arith)

module _ {d : View} (ok : Ranged d) (choice : ℕ) where
  -- what a choice takes of a docket is in range
  taken_ok : list_all package_fits (taken d.packages choice) ≡ true
  taken_ok = taken-fits package_fits d.packages choice ok.packages

  -- and no more than 40
  taken_short : length (taken d.packages choice) ≤ 40
  taken_short = omega (arith, taken-few d.packages choice, ok.few_packages)

  -- so its sums are bounded
  pub taken-bounded : Bounded 400000000 (tally_of (taken d.packages choice))
  taken-bounded = tally_bounded 40 (taken d.packages choice) taken_ok taken_short

  -- and so is its cost
  pub taken-priced : Priced (tally_of (taken d.packages choice))
  taken-priced =
      let between = cost_between (taken d.packages choice) taken_ok in
      record {
        low = omega (arith, ints, between.0, taken_short);
        high = omega (arith, ints, between.1, taken_short);
      }

  -- a walk over what is taken gives one after another
  pub walk : (s : Taken) → still_taken s ≡ taken d.packages choice
      → YieldsList (YieldsFirstBy (λ (x : Bor PricedPackage). x.now) still_taken) (λ x. x.now) s (taken d.packages choice)
  walk s starts = YieldsList-from_first (λ x. x.now) still_taken (taken d.packages choice) starts

  -- with one of them next, the first so many leave room for it, it is in range, and it is added to them
  module _ (n : ℕ) (p : PricedPackage) (next : (n < length (taken d.packages choice)) × (p ≡ get_or (taken d.packages choice) n p)) where
    pub next-room : Room (tally_of (take n (taken d.packages choice)))
    next-room =
        room_for _ (each_take package_fits n _ taken_ok)
        (omega (arith, next.0, taken_short, length-take {A = PricedPackage}))

    pub next-fits : package_fits p ≡ true
    next-fits = each_item package_fits _ n p next.0 next.1 taken_ok

    pub next-added : added (tally_of (take n (taken d.packages choice))) p ≡ tally_of (take (n + 1) (taken d.packages choice))
    next-added =
        ap (λ q. added (tally_of (take n (taken d.packages choice))) q) next.1
        ∙ sym (tally_last _ _)
        ∙ ap tally_of (sym (take_more _ n p next.0))
