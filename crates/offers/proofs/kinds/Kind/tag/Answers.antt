-- `tag`: the kinds are numbered by their tags.
use Rattle.std.proofs.Common.{◌≡◌, ◌+◌, refl}
use denote.Enum.Declared.{tag_of}
use Rattle.offers.specs.contracts.kinds.Kind.{the_type}
use Rattle.offers.specs.declared.kinds.Kind.TheVariants as kind
use Rattle.offers.specs.Memory.{layout_of}
use Rattle.offers.proofs.kinds.Kind.tag.Goals as goal

pub returns : goal.returns
returns c =
    elim c.args.self as (λ k. tag_of the_type k + 1 ≡ (layout_of k).tag) [
      | kind.Package ↦ refl
      | kind.Band ↦ refl
      | kind.Pair ↦ refl
      | kind.Exclusion ↦ refl
      | kind.Limit ↦ refl
    ]
