-- What one of two rules means.
use Rattle.std.specs.Prelude.{ℕ}
use Rattle.pricing.specs.Prices.{Meaning}
use Rattle.bounds.specs.Blocks.{Answers}
use Rattle.rounds.specs.declared.rules.OneOf.{OneOf}
use Rattle.rounds.specs.declared.rules.OneOf.TheVariants.{First, Second}

abbrev pub either_answers : {P Q : Type 0} → (P → Answers) → (Q → Answers) → OneOf P Q → Answers
either_answers p q (First rule) = p rule
either_answers p q (Second rule) = q rule

abbrev pub either_meaning : {P Q : Type 0} → (P → Meaning) → (Q → Meaning) → OneOf P Q → Meaning
either_meaning p q (First rule) = p rule
either_meaning p q (Second rule) = q rule

abbrev pub either_level : {P Q : Type 0} → (P → ℕ) → (Q → ℕ) → OneOf P Q → ℕ
either_level p q (First rule) = p rule
either_level p q (Second rule) = q rule
