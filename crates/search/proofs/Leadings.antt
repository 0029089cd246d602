-- The leader of a search is the best of the settled choices, from the start to the end.
use Rattle.std.proofs.Common.{◌≡◌, ℕ, ◌+◌, ◌^◌, ◌<◌, ◌≤◌, true, false, List, [], ◌∷◌, ℤ, ◌≤ℤ◌, Some, None, Option, sym, refl, subst, arith}
use lib.Signed.{le_z, lt_z}
use Rattle.std.proofs.lemmas.Int.{ints}
use Rattle.std.proofs.lemmas.Bool.{cond_both, both_ways}
use Rattle.clearing.specs.declared.dockets.PricedPackage.{PricedPackage}
use Rattle.clearing.specs.Choices.{taken, supply}
use Rattle.clearing.specs.Judging.{worth_of}
use Rattle.clearing.specs.Lawful.{View, WithinQuantities, LawfulFor, Lawful, Worth, sold, surplus, filled_sales, choices}
use Rattle.clearing.specs.Tallies.{row}
use Rattle.clearing.proofs.Filling.{filled_small, filled_within}
use Rattle.clearing.proofs.FillingSums.{all_of}
use Rattle.clearing.proofs.Incomes.{income-none}
use Rattle.clearing.specs.Ranged.{Ranged}
use Rattle.clearing.proofs.Ranged.{filled-most}
use Rattle.bounds.specs.Blocks.{Span, Answers, InDocket, InBlock, Claims}
use Rattle.search.specs.Search.{Standing, Placed, Leads, start_position, next_block, can_skip, after_settling, after_trial, after_step}
use Rattle.search.proofs.Placings.{step_cases}

-- choice 0 takes nothing
taken_none : (ps : List PricedPackage) → taken ps 0 ≡ []
taken_none [] = refl
taken_none (p ∷ ps) = taken_none ps

-- to take nothing is lawful with sales of nothing
none_lawful : (v : View) (sales : List ℕ) → WithinQuantities v.bands sales → ((m : ℕ) → sold v.bands sales m ≤ 0) → LawfulFor v [] sales
none_lawful v sales within none = record {
  within_quantities = within;
  within_supply = none;
  pairs = all_of _ (λ p h. absurd (both_ways false refl h)) v.pairs;
  exclusions = all_of _ (λ e. all_of _ (λ f _ h _. absurd (both_ways false refl h)) v.exclusions) v.exclusions;
  interconnection = all_of _ (λ l _. omega arith) v.limits;
  export = all_of _ (λ l _. omega arith) v.limits;
  power_before = λ m _ _. omega arith;
  power_after = λ m _ _. omega arith;
  certificates_before = omega arith;
  certificates_after = omega arith;
}

-- so many choices more are settled under the same leader if none of them is worth more
stay_leads : (v : View) (at : Standing) (more : ℕ) → Leads v at
    → ((other : ℕ) (sales : List ℕ) → at.settled ≤ other → other < at.settled + more → Lawful v other sales → surplus v other sales ≤ℤ at.surplus)
    → Leads v (after_settling at more)
stay_leads v at more leads none = record {
  best = record {
    below = omega (arith, leads.best.below);
    lawful = leads.best.lawful;
    greatest = λ other sales below lawful.
        let before = λ (h : other < at.settled). leads.best.greatest other sales h lawful in
        let after = λ (h : at.settled ≤ other). none other sales h below lawful in
        grind (arith, ints, leads.worth);
    earliest = λ other sales below lawful same.
        let before = λ (h : other < at.settled). leads.best.earliest other sales h lawful same in
        grind (arith, leads.best.below);
  };
  worth = leads.worth;
}

-- what a choice is worth at most, the same choice by another name is
same_choice : (v : View) (choice other : ℕ) (sales : List ℕ) (z : ℤ) → other ≡ choice
    → (Lawful v choice sales → surplus v choice sales ≤ℤ z) → Lawful v other sales → surplus v other sales ≤ℤ z
same_choice v choice other sales z same most = subst (λ c. Lawful v c sales → surplus v c sales ≤ℤ z) (sym same) most

-- at most what is tested to be at most another
up_to : (a b c : ℤ) → a ≤ℤ b → le_z b c ≡ true → a ≤ℤ c
up_to a b c most e = grind (arith, ints)

-- what is at most a worth that is tested not to be above the leader's surplus is at most that
not-above : (a c after_trial worth : ℤ) → a ≤ℤ c → lt_z after_trial worth ≡ false → worth ≡ c → a ≤ℤ after_trial
not-above a c after_trial worth most e known = grind (arith, ints)

-- no lawful choice of a hopeless block is worth more than the leader
hopeless-less : (v : View) (b : Span) (answer : Option ℤ) (worth : ℤ) → Claims v b answer → can_skip answer worth ≡ true
    → (other : ℕ) (sales : List ℕ) → InBlock b other → Lawful v other sales → surplus v other sales ≤ℤ worth
hopeless-less v b None worth claims e other sales inside lawful = absurd (claims other sales inside lawful)
hopeless-less v b (Some cap) worth claims e other sales inside lawful =
    up_to (surplus v other sales) cap worth (claims other sales inside lawful) e

module _ (v : View) (ranged : Ranged v) where
  -- nothing is sold of choice 0
  none_sold : (m : ℕ) → sold v.bands (filled_sales v 0) m ≤ 0
  none_sold m =
      let within = filled_within v 0 m ranged.order ranged.bands in
      subst (λ T. sold v.bands (filled_sales v 0) m ≤ supply m T) (taken_none v.packages) within

  -- choice 0 is the best of itself
  pub start-leads : Leads v start_position
  start-leads = record {
    best = record {
      below = omega arith;
      lawful =
          subst (λ T. LawfulFor v T (filled_sales v 0)) (sym (taken_none v.packages))
          (none_lawful v (filled_sales v 0) (filled_small (row (λ m. supply m (taken v.packages 0)) 1 5) v.bands) none_sold);
      greatest = λ other sales below lawful.
          same_choice v 0 other sales (surplus v 0 (filled_sales v 0)) (omega arith) (filled-most v ranged 0 sales) lawful;
      earliest = λ other sales below lawful same. omega arith;
    };
    worth = rw (income-none v.bands (filled_sales v 0) none_sold, taken_none v.packages) refl;
  }

  -- one choice more is settled under the same leader if it is not worth more
  one_stays : (at : Standing) → Leads v at → ((sales : List ℕ) → Lawful v at.settled sales → surplus v at.settled sales ≤ℤ at.surplus) → Leads v (after_settling at 1)
  one_stays at leads most =
      stay_leads v at 1 leads
      (λ other sales from to. same_choice v at.settled other sales at.surplus (omega arith) (most sales))

  -- one that is lawful and worth more leads, since all before it are worth less
  one_leads : (at : Standing) (worth : ℤ) → Worth v at.settled (Some worth) → Leads v at → lt_z at.surplus worth ≡ true
      → Leads v (after_settling (record { settled = at.settled; free = at.free; leader = at.settled; surplus = worth }) 1)
  one_leads at worth known leads e =
      record {
        best = record {
          below = omega arith;
          lawful = known.0;
          greatest = λ other sales below lawful.
              let before = λ (h : other < at.settled). leads.best.greatest other sales h lawful in
              let here = λ (h : at.settled ≤ other).
              same_choice v at.settled other sales (surplus v at.settled (filled_sales v at.settled)) (omega arith) (filled-most v ranged at.settled sales) lawful in
              grind (arith, ints, leads.worth, known.1);
          earliest = λ other sales below lawful same.
              let before = λ (h : other < at.settled). leads.best.greatest other sales h lawful in
              grind (arith, ints, same, leads.worth, known.1);
        };
        worth = known.1;
      }

  -- a choice that is tried leads if it is lawful and worth more
  try_leads : (at : Standing) (worth : Option ℤ) → Worth v at.settled worth → Leads v at → Leads v (after_settling (after_trial at worth) 1)
  try_leads at None never leads = one_stays at leads (λ sales lawful. absurd (never sales lawful))
  try_leads at (Some worth) known leads =
      cond_both (lt_z at.surplus worth) _ _ (λ (a : Standing). Leads v (after_settling a 1))
      (one_leads at worth known leads)
      (λ e. one_stays at leads (λ sales lawful. not-above _ _ at.surplus worth (filled-most v ranged at.settled sales lawful) e known.1))

  module _ (rule : Answers) (judged : (c : ℕ) → Worth v c (worth_of v c)) (sound : (b : Span) → InDocket v b → Claims v b (rule v b)) where
    -- a hopeless block is settled without a look
    skip_leads : (at : Standing) → Placed v at → at.settled < choices v → Leads v at → can_skip (rule v (next_block at)) at.surplus ≡ true → Leads v (after_settling at (2 ^ at.free))
    skip_leads at placed below leads e =
        let b = next_block at in
        stay_leads v at (2 ^ at.free) leads
        (λ other sales from to. hopeless-less v b (rule v b) at.surplus (sound b (placed.block below)) e other sales (record { from = from; below = to }))

    -- a step keeps the leader the best
    pub step-leads : (at : Standing) → Placed v at → at.settled < choices v → Leads v at → Leads v (after_step rule v at)
    step-leads at placed below leads =
        step_cases rule v (Leads v) at
        (skip_leads at placed below leads)
        (λ _. record { best = leads.best; worth = leads.worth })
        (λ _. try_leads at (worth_of v at.settled) (judged at.settled) leads)
