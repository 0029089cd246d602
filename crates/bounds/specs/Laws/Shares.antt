-- Why the shares rule is sound: no choice of the block has less that is dated, or sells more.
use Rattle.std.specs.Prelude.{◌≡◌, ℕ, ◌*◌, ◌≤◌, true, List, Some, None, ◌==◌, cond}
use Rattle.std.proofs.Common.{le_trans, mul-le-mul_left, arith}
use Rattle.std.proofs.lemmas.Bool.{both_ways, cond_both}
use Rattle.clearing.specs.Choices.{taken, supplied, supply, dated}
use Rattle.clearing.specs.Judging.{dates_kept}
use Rattle.clearing.specs.Lawful.{View, sold, percentage, Lawful, filled_sales}
use Rattle.clearing.proofs.Filling.{ranges_of, market-most, parts_of_one}
use Rattle.clearing.proofs.Judged.{dates_tell}
use Rattle.clearing.specs.Ranged.{Ranged}
use Rattle.bounds.specs.Blocks.{Span, InDocket, InBlock, Claims, last_of, fixed, possible}
use Rattle.bounds.specs.Rules.{ceiling, shares_kept}
use Rattle.bounds.specs.Laws.Parts.{first_part, last_part}
use Rattle.bounds.specs.Laws.Ceiling.{surplus-few}

module _ (v : View) (ranged : Ranged v) (b : Span) (block : InDocket v b) where
  -- where a choice is lawful, the fixed packages keep the percentages of the most that can be sold: they have no more that is dated,
  -- and the choice sells no more
  shared : (choice : ℕ) (sales : List ℕ) → InBlock b choice → Lawful v choice sales → (date m percent : ℕ)
      → 100 * dated date m (taken v.packages choice) ≤ percent * sold v.bands sales m
      → 100 * dated date m (fixed v b) ≤ percent * sold v.bands (filled_sales v (last_of b)) m
  shared choice sales inside lawful date m percent kept =
      let less = (first_part v b block choice inside).less (λ p. cond (p.terms.date == date) (supplied m p.terms) 0) in
      let more = last_part v b block choice inside in
      let most = market-most v.bands (λ m. supply m (possible v b)) ranged.order.numbers ranged.order.ahead (ranges_of v.bands ranged.bands) 1 sales
      (parts_of_one v.bands sales lawful.within_quantities) (λ m. omega (arith, le_trans (lawful.within_supply m) (more.less _))) m in
      let more_sold : sold v.bands sales m ≤ sold v.bands (filled_sales v (last_of b)) m = omega (arith, most) in
      omega (arith, less, kept, mul-le-mul_left percent more_sold)

  dates_passed : (choice : ℕ) (sales : List ℕ) → InBlock b choice → Lawful v choice sales → dates_kept v (fixed v b) (filled_sales v (last_of b)) ≡ true
  dates_passed choice sales inside lawful =
      let kept = shared choice sales inside lawful in
      let before = λ (m : ℕ) (low : 1 ≤ m) (high : m ≤ 3). kept 1 m (percentage v.limits 1) (lawful.power_before m low high) in
      let after = λ (m : ℕ) (low : 1 ≤ m) (high : m ≤ 3). kept 2 m (percentage v.limits 2) (lawful.power_after m low high) in
      (dates_tell v (fixed v b) (filled_sales v (last_of b))).1 (
        ((before 1 (omega arith) (omega arith), after 1 (omega arith) (omega arith)), ((before 2 (omega arith) (omega arith), after 2 (omega arith) (omega arith)), ((before 3 (omega arith) (omega arith), after 3 (omega arith) (omega arith)), tt))),
        (kept 1 5 (percentage v.limits 3) lawful.certificates_before, kept 2 5 (percentage v.limits 4) lawful.certificates_after),
      )

  -- so where they do not, no choice is lawful
  pub shares-sound : Claims v b (shares_kept v b)
  shares-sound =
      cond_both _ (Some ceiling) None (Claims v b)
      (λ _ choice sales inside lawful. surplus-few v ranged choice sales lawful)
      (λ fails choice sales inside lawful. both_ways _ fails (dates_passed choice sales inside lawful))
