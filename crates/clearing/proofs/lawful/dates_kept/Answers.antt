-- `dates_kept`: the answer is that of all the tests, of which the first are those of the power markets.
use Rattle.std.proofs.Common.{◌≡◌, ◌&&◌, [], ◌∷◌, get_or, refl, ◌∙◌, rules, tests}
use Rattle.std.specs.List.{list_all}
use Rattle.std.proofs.lemmas.Bool.Decides.{Decides-at}
use Rattle.std.proofs.lemmas.Iterator.{YieldsList-from_range}
use Rattle.std.proofs.lemmas.Iterator.Search.{all_from_yields_List}
use Rattle.clearing.proofs.Tested.{shares, power_shares, dates_decide}
use Rattle.clearing.proofs.lawful.dates_kept.Goals as goal
use Rattle.clearing.proofs.lawful.dates_kept.Goals.{then-all, else-all}

pub returns-then-share_kept : goal.returns-then-share_kept
returns-then-share_kept c =
    let t = c.args.tally.now in
    let sold = c.args.sales.now.sold in
    let least = c.percentages-least.result in
    let power : c.all.result ≡ list_all (power_shares t sold least) (1 ∷ 2 ∷ 3 ∷ []) =
    all_from_yields_List (power_shares t sold least) _ _ c.all.result c.all.ensures.ran (YieldsList-from_range 1 4 3 (cc) refl) (λ x b q k. search (rules, tests)) in
    let both : c.if-all.value ≡ (c.all.result && shares t.before sold (get_or least 2 0) 5) = elim c.if-all.branch [
      | then-all w ↦ rw w.if-all.true (w.value-is ∙ w.share_kept.ensures)
      | else-all w ↦ rw w.if-all.false (w.value-is ∙ w.if-all.false)
    ] in
    Decides-at _ _ (rw (← power, ← both, c.if-share_kept.true) c.share_kept-then-share_kept.ensures) (dates_decide _ t sold least c.percentages-least.ensures.value)

pub returns-else-share_kept : goal.returns-else-share_kept
returns-else-share_kept c =
    let t = c.args.tally.now in
    let sold = c.args.sales.now.sold in
    let least = c.percentages-least.result in
    let power : c.all.result ≡ list_all (power_shares t sold least) (1 ∷ 2 ∷ 3 ∷ []) =
    all_from_yields_List (power_shares t sold least) _ _ c.all.result c.all.ensures.ran (YieldsList-from_range 1 4 3 (cc) refl) (λ x b q k. search (rules, tests)) in
    let both : c.if-all.value ≡ (c.all.result && shares t.before sold (get_or least 2 0) 5) = elim c.if-all.branch [
      | then-all w ↦ rw w.if-all.true (w.value-is ∙ w.share_kept.ensures)
      | else-all w ↦ rw w.if-all.false (w.value-is ∙ w.if-all.false)
    ] in
    Decides-at _ _ (rw (← power, ← both, c.if-share_kept.false) refl) (dates_decide _ t sold least c.percentages-least.ensures.value)
