-- Why the limits rule is sound: what the fixed packages break, every choice of the block breaks.
use Rattle.std.specs.Prelude.{◌≡◌, ℕ, true, ◌&&◌, List, Some, None}
use Rattle.std.proofs.Common.{le_trans}
use Rattle.std.proofs.ByRecursion.{All-weaker}
use Rattle.std.proofs.lemmas.Bool.{and_from, both_ways, cond_both}
use Rattle.clearing.specs.declared.dockets.PricedPackage.{PricedPackage}
use Rattle.clearing.specs.Choices.{taken}
use Rattle.clearing.specs.Judging.{pairs_kept, exclusions_kept, zones_kept}
use Rattle.clearing.specs.Lawful.{View, Lawful}
use Rattle.clearing.proofs.Judged.{pairs_tell, exclusions_tell, zones_tell}
use Rattle.clearing.specs.Ranged.{Ranged}
use Rattle.clearing.proofs.RowRules.{all_both}
use Rattle.bounds.specs.Blocks.{Span, InDocket, InBlock, Claims, fixed, possible}
use Rattle.bounds.specs.Rules.{ceiling, limits_kept}
use Rattle.bounds.specs.Laws.Parts.{Part, first_part, last_part}
use Rattle.bounds.specs.Laws.Ceiling.{surplus-few}

module _ (v : View) (ranged : Ranged v) (b : Span) (block : InDocket v b) where
  -- where a choice of a block is lawful, what is part of its packages passes the tests, with the packages that any choice takes
  pub part_passed : (choice : ℕ) (sales : List ℕ) → InBlock b choice → Lawful v choice sales → (T : List PricedPackage) → Part T (taken v.packages choice)
      → (pairs_kept v.pairs T (possible v b) && (exclusions_kept v.exclusions T && zones_kept v.limits T)) ≡ true
  part_passed choice sales inside lawful T less =
      let more = last_part v b block choice inside in
      let zones = (all_both _ _ v.limits).1 (lawful.interconnection, lawful.export) in
      and_from _ _
      ((pairs_tell v.pairs T (possible v b)).1 (All-weaker _ _ (λ p needs has. more.among p.needed (needs (less.among p.dependent has))) v.pairs lawful.pairs))
      (and_from _ _
      ((exclusions_tell v.exclusions T).1 (All-weaker _ _ (λ e. All-weaker _ _ (λ f apart same one other. apart same (less.among e.member one) (less.among f.member other)) v.exclusions) v.exclusions lawful.exclusions))
      ((zones_tell v.limits T).1 (All-weaker _ _ (λ l kept. ((λ is. le_trans (less.less _) (kept.0 is)), (λ is. le_trans (less.less _) (kept.1 is)))) v.limits zones)))

  -- so where those that all its choices take do not, no choice is lawful; and no surplus is above the ceiling
  pub limits-sound : Claims v b (limits_kept v b)
  limits-sound =
      cond_both _ (Some ceiling) None (Claims v b)
      (λ _ choice sales inside lawful. surplus-few v ranged choice sales lawful)
      (λ fails choice sales inside lawful. both_ways _ fails (part_passed choice sales inside lawful (fixed v b) (first_part v b block choice inside)))
