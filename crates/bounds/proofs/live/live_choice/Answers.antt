-- `live_choice`: where the fixed packages keep the rules, each turn gives one free package more its digit, if the passes say that it could be taken with them.
use Rattle.std.proofs.Common.{◌≡◌, ℕ, ◌+◌, ◌*◌, ◌^◌, ◌<◌, ◌≤◌, Bool, true, false, List, [], ◌∷◌, ◌++◌, length, get_or, take, sym, ap, ◌∙◌, ap₂, subst, add-one, arith}
use Rattle.std.specs.List.{filter}
use Rattle.std.proofs.Math.Nat.{pow-succ'}
use Rattle.std.proofs.lemmas.Nat.{one_shl}
use Rattle.std.proofs.lemmas.Bool.{and_from, and_left, and_right}
use Rattle.std.proofs.lemmas.List.{get_or-take, length-take, take_all}
use Rattle.offers.specs.declared.records.Exclusion.{Exclusion}
use Rattle.clearing.specs.declared.dockets.PricedPackage.{PricedPackage}
use Rattle.clearing.specs.Choices.{taken}
use Rattle.clearing.specs.Ranges.{package_fits}
use Rattle.clearing.specs.Tallies.{row, tally_of}
use Rattle.clearing.proofs.Fits.{each_getD}
use Rattle.clearing.proofs.Held.{no_package}
use Rattle.clearing.proofs.Takings.{taken-bounded}
use Rattle.clearing.proofs.Tallying.{Bounded}
use Rattle.bounds.specs.Rules.{joins}
use Rattle.bounds.specs.Blocks.{fixed, possible, free_ones}
use Rattle.bounds.specs.Live.{cleared, unopposed, tightest, room}
use Rattle.bounds.specs.Laws.Splits.{taken_none}
use Rattle.bounds.proofs.Digits.{taken_with, kept-yes, kept-no}
use Rattle.bounds.proofs.Joins.{joins-passed, none-joins}
use Rattle.bounds.proofs.live.live_choice.Goals as goal
use Rattle.bounds.proofs.live.live_choice.Goals.{then-place-block+then-met-number+then-apart-number+then-has_room, else-place-block, else-place-block-via-then-place-block+then-met-number+then-apart-number+else-has_room, else-place-block-via-then-place-block+then-met-number+else-apart-number, else-place-block-via-then-place-block+else-met-number, else-place-block-via-else-place-block}

module _ (test : PricedPackage → Bool) (ps : List PricedPackage) (k i : ℕ) (inside : i < length ps) where
  -- the package at the place
  abbrev here : PricedPackage
  here = get_or ps i no_package

  -- of the first so many, where it is one of them
  among-first : i < k → i < length (take k ps)
  among-first free = simp length-take (omega arith)

  -- it is kept if it passes
  kept-there : i < k → test here ≡ true → filter test (take (i + 1) (take k ps)) ≡ filter test (take i (take k ps)) ++ here ∷ []
  kept-there free passes =
      let same = get_or-take k ps i no_package free in
      kept-yes test (take k ps) i no_package (among-first free) (ap test same ∙ passes)
      ∙ ap (λ q. filter test (take i (take k ps)) ++ q ∷ []) same

  -- and not if it does not
  kept-not : i < k → test here ≡ false → filter test (take (i + 1) (take k ps)) ≡ filter test (take i (take k ps))
  kept-not free fails = kept-no test (take k ps) i no_package (among-first free) (ap test (get_or-take k ps i no_package free) ∙ fails)

  -- nor if it is none of them
  kept-past : k ≤ i → filter test (take (i + 1) (take k ps)) ≡ filter test (take i (take k ps))
  kept-past past =
      let few : length (take k ps) ≤ i = simp length-take (omega arith) in
      let more : length (take k ps) ≤ i + 1 = simp length-take (omega arith) in
      ap (filter test) (take_all (i + 1) (take k ps) more ∙ sym (take_all i (take k ps) few))

pub returns-then-not-stands : goal.returns-then-not-stands
returns-then-not-stands c block =
    let d = c.args.docket.now in
    let v = d in
    let b = c.args.block in
    let firsts = c.new-fixed.ensures.tally ∙ ap (λ b. tally_of (fixed v b)) c.block.view_is in
    let others = c.new-possible.ensures.tally ∙ ap (λ n. tally_of (taken v.packages n)) c.last.ensures in
    taken_none v.packages
    ∙ sym (none-joins c.new-fixed.ensures.ranged (fixed v b) (possible v b) (sym (c.stands.ensures (fixed v b) (possible v b) firsts others) ∙ c.if-not-stands.true) (free_ones v b))

pub loop-place-init : goal.loop-place-init
loop-place-init c = record { bound = omega arith; value = λ block. taken_none c.args.docket.now.packages }

pub has_room-requires-clause-nameplate : goal.has_room-requires-clause-nameplate
has_room-requires-clause-nameplate c =
    (subst (Bounded 400000000) (sym c.new-fixed.ensures.tally) (taken-bounded c.new-fixed.ensures.ranged c.block.inside.first)).nameplate

pub has_room-requires-clause-export : goal.has_room-requires-clause-export
has_room-requires-clause-export c =
    (subst (Bounded 400000000) (sym c.new-fixed.ensures.tally) (taken-bounded c.new-fixed.ensures.ranged c.block.inside.first)).export

pub loop-place-preserved : goal.loop-place-preserved
loop-place-preserved c =
    let d = c.args.docket.now in
    let v = d in
    let b = c.args.block in
    let ps = d.packages in
    let test = joins v (fixed v b) (possible v b) in
    let ok = c.new-fixed.ensures.ranged in
    let held = c.as_slice-package-items.ensures.value ∙ ap (λ v. v.packages) c.docket.view_is in
    let i = c.loop-place.place in
    let before = c.loop-place.invariant in
    let inside : i < length ps = omega (arith, c.loop-place-test.true, ap length held) in
    let small : i < 64 = omega (arith, inside, ok.few_packages) in
    let shl = one_shl i 64 small in
    let next : 2 ^ (i + 1) ≡ 2 * 2 ^ i = rw (add-one i) (pow-succ' 2 i) in
    let p = get_or ps i no_package in
    let same = ap (λ qs. get_or qs i no_package) held in
    let free : c.block-2.inside.free ≡ b.free = ap (λ b. b.free) c.block-2.view_is in
    let firsts = c.new-fixed.ensures.tally ∙ ap (λ b. tally_of (fixed v b)) c.block.view_is in
    let others = c.new-possible.ensures.tally ∙ ap (λ n. tally_of (taken ps n)) c.last.ensures in
    let bounded = subst (Bounded 400000000) (sym firsts) (taken-bounded ok b.first) in
    let says =
    joins-passed ok (fixed v b) (possible v b) c.new-fixed.result c.new-possible.result firsts others bounded
    (sym (c.stands.ensures (fixed v b) (possible v b) firsts others) ∙ c.if-not-stands.false) p
    (each_getD package_fits ps i no_package inside ok.packages) in
    let xs = d.exclusions in
    let ls = d.limits in
    let from = row (tightest 1 ls) 1 16 in
    let to = row (tightest 2 ls) 1 16 in
    let met = ap₂ (λ tests (q : PricedPackage). get_or tests q.number false) c.met-met.ensures same in
    let apart =
    ap₂ (λ tests (q : PricedPackage). get_or tests q.number false)
    (c.apart-apart.ensures ∙ ap (λ hs. row (cleared (λ (e : Exclusion). e.member) (unopposed hs) xs) 0 41) c.heads.ensures) same in
    let rooms =
    ap₂ (λ one other. room one other c.new-fixed.result (get_or c.as_slice-package-items.result.now i no_package).terms) c.tightest-interconnection.ensures c.tightest-export.ensures
    ∙ ap (λ (q : PricedPackage). room from to c.new-fixed.result q.terms) same in
    elim c.if-place-block.branch [
      | then-place-block+then-met-number+then-apart-number+then-has_room w ↦
          let sum : c.if-place-block.live ≡ c.loop-place.live + 2 ^ i = omega (arith, w.live-is, shl) in
          let joined : test p ≡ true =
          sym says
          ∙ and_from _ _ (sym met ∙ w.if-met-number.true) (and_from _ _ (sym apart ∙ w.if-apart-number.true) (sym (w.has_room.ensures ∙ rooms) ∙ w.if-has_room.true)) in
          record {
            bound = omega (arith, sum, next, before.bound);
            value = λ block.
                ap (taken ps) sum
                ∙ taken_with ps i c.loop-place.live before.bound no_package inside
                ∙ ap (λ qs. qs ++ p ∷ []) (before.value block)
                ∙ sym (kept-there test ps b.free i inside (omega (arith, free, w.if-place-block.true)) joined);
          }
      | else-place-block w ↦
          let same_ones : filter test (take (i + 1) (take b.free ps)) ≡ filter test (take i (take b.free ps)) =
          elim w.else-place-block.branch [
            | else-place-block-via-then-place-block+then-met-number+then-apart-number+else-has_room w' ↦
                kept-not test ps b.free i inside (omega (arith, free, w'.if-place-block.true)) (sym says ∙ and_right _ _ (and_right _ _ (sym (w'.has_room.ensures ∙ rooms) ∙ w'.if-has_room.false)))
            | else-place-block-via-then-place-block+then-met-number+else-apart-number w' ↦
                kept-not test ps b.free i inside (omega (arith, free, w'.if-place-block.true)) (sym says ∙ and_right _ _ (and_left _ _ (sym apart ∙ w'.if-apart-number.false)))
            | else-place-block-via-then-place-block+else-met-number w' ↦
                kept-not test ps b.free i inside (omega (arith, free, w'.if-place-block.true)) (sym says ∙ and_left _ _ (sym met ∙ w'.if-met-number.false))
            | else-place-block-via-else-place-block w' ↦ kept-past test ps b.free i inside (omega (arith, free, w'.if-place-block.false))
          ] in
          record {
            bound = omega (arith, w.live-is, next, before.bound);
            value = λ block. ap (taken ps) w.live-is ∙ before.value block ∙ sym same_ones;
          }
    ]
