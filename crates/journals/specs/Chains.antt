-- Bounding rules as words: one, or several joined.
use Rattle.std.specs.Prelude.{ℕ, List, [], ◌∷◌, vec_items, ◌==◌, Ok, Err, Result}
use Rattle.std.specs.List.{slice_split}
use Rattle.bounds.specs.declared.chains.Chain.{Chain}
use Rattle.bounds.specs.declared.names.Named.{Named}
use Rattle.journals.specs.declared.wrongs.Wrong.{Wrong}
use Rattle.journals.specs.declared.wrongs.Wrong.TheVariants.{UnknownRule}
use Rattle.journals.specs.Names.{case_named, bounding_rules}
use Rattle.journals.specs.Readers.{Reading, word_at, known}
use Rattle.journals.specs.Wrongs.{◌>>=◌}

-- Rules joined from the left, as a plain list that is not empty.
pub record Rules : Type 0 where
  pub first : Named
  pub others : List Named

abbrev pub joined_rules : Chain Named → Rules
joined_rules chain = record { first = chain.first; others = vec_items chain.others }

-- each part names a rule
abbrev pub rules_in : List (List ℕ) → Result (List Named) Wrong
rules_in [] = Ok []
rules_in (part ∷ parts) = do
  rule ← known UnknownRule (case_named bounding_rules part)
  others ← rules_in parts
  Ok (rule ∷ others)

abbrev pub chain_in : List (List ℕ) → Result Rules Wrong
chain_in [] = Err UnknownRule
chain_in (part ∷ parts) = do
  first ← known UnknownRule (case_named bounding_rules part)
  others ← rules_in parts
  Ok (record { first = first; others = others })

-- the next word as rules joined by plus signs
unfoldable pub chain_at : List (List ℕ) → Reading Rules
chain_at words = do
  word ← word_at words
  chain ← chain_in (slice_split (λ b. b == 43) word.0)
  Ok (chain, word.1)
