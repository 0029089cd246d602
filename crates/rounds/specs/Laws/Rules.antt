-- Why one of two rules keeps its law: each of the two does.
use Rattle.offers.specs.declared.records.Package.{Package}
use Rattle.pricing.specs.Prices.{Bounded, Meaning}
use Rattle.bounds.specs.Blocks.{Answers, SoundRule}
use Rattle.rounds.specs.declared.rules.OneOf.{OneOf}
use Rattle.rounds.specs.declared.rules.OneOf.TheVariants.{First, Second}
use Rattle.rounds.specs.Rules.{either_answers, either_meaning}

-- of bounding rules
pub either_sound : {P Q : Type 0} (p : P → Answers) (q : Q → Answers) → ((s : P) → SoundRule (p s)) → ((s : Q) → SoundRule (q s)) → (s : OneOf P Q) → SoundRule (either_answers p q s)
either_sound p q sp sq (First rule) = sp rule
either_sound p q sp sq (Second rule) = sq rule

-- of price rules
pub either_bounded : {P Q : Type 0} (p : P → Meaning) (q : Q → Meaning) → ((s : P) (x : Package) → Bounded (p s x)) → ((s : Q) (x : Package) → Bounded (q s x)) → (s : OneOf P Q) (x : Package) → Bounded (either_meaning p q s x)
either_bounded p q bp bq (First rule) = bp rule
either_bounded p q bp bq (Second rule) = bq rule
