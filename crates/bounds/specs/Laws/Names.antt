-- Why a rule that a name picks is sound: each of them is.
use Rattle.clearing.proofs.ClosedRanges.{ranged-closing}
use Rattle.bounds.specs.declared.names.Named.{Named}
use Rattle.bounds.specs.declared.names.Named.TheVariants.{Ceiling, AllIn, OneByOne, Limits, Shares, Tangent}
use Rattle.bounds.specs.Blocks.{SoundRule}
use Rattle.bounds.specs.Rules.{named}
use Rattle.bounds.specs.Laws.Ceiling.{always-sound}
use Rattle.bounds.specs.Laws.AllIn.{all_in-sound}
use Rattle.bounds.specs.Laws.Limits.{limits-sound}
use Rattle.bounds.specs.Laws.Shares.{shares-sound}
use Rattle.bounds.specs.Laws.OneByOne.{one_by_one-sound}
use Rattle.bounds.specs.Laws.Tangent.{tangent-sound}

-- each rule by itself is
pub named-sound : (name : Named) → SoundRule (named name)
named-sound Ceiling v b closed block = always-sound v (ranged-closing v closed) b
named-sound AllIn v b closed block = all_in-sound v (ranged-closing v closed) b block
named-sound OneByOne v b closed block = one_by_one-sound v (ranged-closing v closed) b block
named-sound Limits v b closed block = limits-sound v (ranged-closing v closed) b block
named-sound Shares v b closed block = shares-sound v (ranged-closing v closed) b block
named-sound Tangent v b closed block = tangent-sound v (ranged-closing v closed) b block
