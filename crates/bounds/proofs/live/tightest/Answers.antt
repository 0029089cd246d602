-- `tightest`: a limit more of the sort sets the lesser at its zone.
use Rattle.std.proofs.Common.{◌≡◌, ℕ, ◌+◌, ◌-◌, ◌<◌, ◌≤◌, min, Bool, true, false, cond, ◌&&◌, eqb, List, [], ◌∷◌, ◌++◌, length, get_or, set, take, sym, refl, ap, ◌∙◌, arith}
use Rattle.std.proofs.lemmas.List.{take_more}
use Rattle.std.proofs.lemmas.Bool.{and_from, and_left, and_right, cond-true, cond-false, eqb-true, eqb-false, eq-eqb, ne_eqb}
use Rattle.offers.specs.declared.records.Limit.{Limit}
use Rattle.offers.specs.Marks.{sort_byte}
use Rattle.clearing.specs.Tallies.{row}
use Rattle.clearing.proofs.Held.{no_limit, limit_ranged}
use Rattle.clearing.proofs.Rows.{getD_row, row_same, row-set}
use Rattle.bounds.specs.Live.{tightest}
use Rattle.bounds.proofs.live.tightest.Goals as goal
use Rattle.bounds.proofs.live.tightest.Goals.{then-is_on, else-is_on}

-- the lesser of an amount and the lesser of two, whichever count
lesser : (b t : Bool) (m n p : ℕ) → cond b (min m (cond t (min n p) p)) (cond t (min n p) p) ≡ cond t (min (cond b (min m p) p) n) (cond b (min m p) p)
lesser true true m n p = omega arith
lesser true false m n p = refl
lesser false true m n p = omega arith
lesser false false m n p = refl

module _ (sort : ℕ) where
  -- does a limit count in a zone?
  abbrev on : Limit → ℕ → Bool
  on l zone = eqb l.sort sort && eqb l.zone zone

  -- with one more at the end
  tightest-last : (ls : List Limit) (l : Limit) (zone : ℕ) → tightest sort (ls ++ l ∷ []) zone ≡ cond (on l zone) (min (tightest sort ls zone) l.amount) (tightest sort ls zone)
  tightest-last [] l zone = ap (λ n. cond (on l zone) n 1000000000000) (omega arith)
  tightest-last (k ∷ ls) l zone =
      ap (λ n. cond (on k zone) (min k.amount n) n) (tightest-last ls l zone ∙ ap (λ n. cond (on l zone) n (tightest sort ls zone)) (omega arith))
      ∙ lesser (on k zone) (on l zone) k.amount l.amount (tightest sort ls zone)

  module _ (ls : List Limit) (i : ℕ) (inside : i < length ls) where
    -- the next limit
    abbrev next : Limit
    next = get_or ls i no_limit

    -- with it
    tightest_more : (zone : ℕ) → tightest sort (take (i + 1) ls) zone ≡ cond (on next zone) (min (tightest sort (take i ls) zone) next.amount) (tightest sort (take i ls) zone)
    tightest_more zone = ap (λ ks. tightest sort ks zone) (take_more ls i no_limit inside) ∙ tightest-last (take i ls) next zone

    -- of the sort, it sets the lesser at its zone
    tightest-there : next.sort ≡ sort → 1 ≤ next.zone → next.zone ≤ 16
        → set (row (tightest sort (take i ls)) 1 16) (next.zone - 1) (min (get_or (row (tightest sort (take i ls)) 1 16) (next.zone - 1) 0) next.amount) ≡ row (tightest sort (take (i + 1) ls)) 1 16
    tightest-there is low high =
        let place = next.zone - 1 in
        let zone : 1 + place ≡ next.zone = omega arith in
        let old : get_or (row (tightest sort (take i ls)) 1 16) place 0 ≡ tightest sort (take i ls) (1 + place) = getD_row (tightest sort (take i ls)) 1 16 place 0 (omega arith) in
        sym (row-set (tightest sort (take i ls)) (tightest sort (take (i + 1) ls)) _ 1 16 place
        (tightest_more (1 + place) ∙ cond-true (on next (1 + place)) _ _ (and_from _ _ (eq-eqb next.sort sort is) (eq-eqb next.zone (1 + place) (sym zone))) ∙ ap (λ n. min n next.amount) (sym old))
        (λ m ne. tightest_more m ∙ cond-false (on next m) _ _ (and_right (eqb next.sort sort) _ (ne_eqb next.zone m (λ e. ne (sym e ∙ sym zone))))))

    -- of another, nothing
    tightest-same : (next.sort ≡ sort → ⊥) → row (tightest sort (take i ls)) 1 16 ≡ row (tightest sort (take (i + 1) ls)) 1 16
    tightest-same not =
        row_same (tightest sort (take i ls)) (tightest sort (take (i + 1) ls)) 1 16 (λ m h.
        sym (tightest_more m ∙ cond-false (on next m) _ _ (and_left _ (eqb next.zone m) (ne_eqb next.sort sort not))))

pub loop-limit-preserved : goal.loop-limit-preserved
loop-limit-preserved c =
    let sort = sort_byte c.args.sort in
    let ls = c.as_slice-limit-items.result.now in
    let i = c.loop-limit.limit-index in
    let inside = c.loop-limit-test.true in
    let l = get_or ls i no_limit in
    let r = limit_ranged c.docket.invariant i ls c.as_slice-limit-items.ensures.value inside in
    elim c.if-is_on.branch [
      | then-is_on w ↦
          w.least-is
          ∙ ap (set c.loop-limit.least (l.zone - 1)) w.min.ensures
          ∙ ap (λ ns. set ns (l.zone - 1) (min (get_or ns (l.zone - 1) 0) l.amount)) c.loop-limit.invariant
          ∙ tightest-there sort ls i inside (eqb-true l.sort sort (sym w.if-is_on.ensures)) r.zone_least r.zone
      | else-is_on w ↦
          w.least-is ∙ c.loop-limit.invariant ∙ tightest-same sort ls i inside (eqb-false l.sort sort (sym w.if-is_on.ensures))
    ]
