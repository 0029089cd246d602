-- Why the rules of a search are sound: they are joined of sound ones.
use Rattle.bounds.specs.declared.names.Named.TheVariants.{AllIn, Limits, Shares, Tangent}
use Rattle.bounds.specs.Blocks.{SoundRule}
use Rattle.bounds.specs.Rules.{all_in, limits_kept, shares_kept, tangent}
use Rattle.bounds.specs.Laws.Joined.{joined-sound}
use Rattle.bounds.specs.Laws.Names.{named-sound}
use Rattle.reports.specs.declared.searching.Rules.{Rules}
use Rattle.reports.specs.declared.searching.Rules.TheVariants.{Stated, Quick}
use Rattle.reports.specs.Searching.{searching}

pub searching-sound : (rules : Rules) → SoundRule (searching rules)
searching-sound Stated = joined-sound limits_kept all_in (named-sound Limits) (named-sound AllIn)
searching-sound Quick =
    joined-sound limits_kept _ (named-sound Limits)
    (joined-sound all_in _ (named-sound AllIn) (joined-sound shares_kept tangent (named-sound Shares) (named-sound Tangent)))
