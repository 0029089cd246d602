-- `stands`: what is tested over the sums is what is asked of the packages that they count.
use Rattle.std.proofs.Common.{◌≡◌, Bool, true, false, ◌&&◌, sym, ◌∙◌}
use Rattle.std.proofs.lemmas.Bool.{and_left, and_right, both_ways}
use Rattle.clearing.specs.Judging.{pairs_kept, exclusions_kept, zones_kept}
use Rattle.clearing.proofs.Judged.{pairs-tested, groups_tested, zones-tested}
use Rattle.bounds.proofs.limits.stands.Goals as goal
use Rattle.bounds.proofs.limits.stands.Goals.{then-pairs_kept, else-pairs_kept}

-- where the first two of three tests pass, the third decides
third-decides : (a b c r : Bool) → a ≡ true → b ≡ true → r ≡ c → r ≡ a && (b && c)
third-decides a b c r one two three = rw (one, two) three

pub returns-then-exclusions_kept : goal.returns-then-exclusions_kept
returns-then-exclusions_kept c T W counted others =
    let d = c.args.docket.now in
    let t = c.args.tally.now in
    let zones = zones-tested T t counted c.zones_kept.result d.limits c.requires.limits c.zones_kept.ensures in
    let pairs = pairs-tested T t counted c.pairs_kept.result W c.args.possible.now others d.pairs c.requires.pairs c.pairs_kept.ensures in
    elim c.if-pairs_kept.branch [
      | then-pairs_kept w ↦
          let groups = groups_tested T t counted w.exclusions_kept.result d.exclusions c.requires.exclusions w.exclusions_kept.ensures in
          third-decides _ _ _ _ (sym pairs ∙ w.if-pairs_kept.true) (sym groups ∙ sym w.value-is ∙ c.if-exclusions_kept.true) zones
      | else-pairs_kept w ↦ absurd (both_ways _ (w.value-is ∙ w.if-pairs_kept.false) c.if-exclusions_kept.true)
    ]

pub returns-else-exclusions_kept : goal.returns-else-exclusions_kept
returns-else-exclusions_kept c T W counted others =
    let d = c.args.docket.now in
    let t = c.args.tally.now in
    let pairs = pairs-tested T t counted c.pairs_kept.result W c.args.possible.now others d.pairs c.requires.pairs c.pairs_kept.ensures in
    let fails : (pairs_kept d.pairs T W && (exclusions_kept d.exclusions T && zones_kept d.limits T)) ≡ false =
    elim c.if-pairs_kept.branch [
      | then-pairs_kept w ↦
          let groups = groups_tested T t counted w.exclusions_kept.result d.exclusions c.requires.exclusions w.exclusions_kept.ensures in
          and_right _ _ (and_left _ _ (sym groups ∙ sym w.value-is ∙ c.if-exclusions_kept.false))
      | else-pairs_kept w ↦ and_left _ _ (sym pairs ∙ w.if-pairs_kept.false)
    ] in
    c.if-exclusions_kept.false ∙ sym fails
