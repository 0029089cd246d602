-- Why joined rules are sound: two, or any number, of sound ones.
use Rattle.std.specs.Prelude.{List, ℤ, Some, None, Option}
use Rattle.std.proofs.Common.{arith}
use Rattle.std.proofs.lemmas.Int.{ints, clamps}
use Rattle.clearing.specs.Lawful.{View}
use Rattle.bounds.specs.Blocks.{Span, Claims}
use Rattle.bounds.specs.Rules.{smaller}
use Rattle.bounds.specs.Rules.{joined, chained}
use Rattle.bounds.specs.Blocks.{Answers, SoundRule}
use Rattle.std.specs.Prelude.{[], ◌∷◌, map}

-- a cap below two others holds where they do, and none where either does
pub smaller-sound : (v : View) (b : Span) (one other : Option ℤ) → Claims v b one → Claims v b other → Claims v b (smaller one other)
smaller-sound v b None other none claims = none
smaller-sound v b (Some cap) None claims none = none
smaller-sound v b (Some cap) (Some other) caps others =
    λ choice sales inside lawful. omega (arith, ints, clamps, caps choice sales inside lawful, others choice sales inside lawful)

-- two sound rules joined are
pub joined-sound : (one other : Answers) → SoundRule one → SoundRule other → SoundRule (joined one other)
joined-sound one other sound-one sound-other v b closed block =
    smaller-sound v b (one v b) (other v b) (sound-one v b closed block) (sound-other v b closed block)

module _ {B : Type 0} (answers : B → Answers) (sound : (rule : B) → SoundRule (answers rule)) where
  -- so any number are that are joined to a sound one, by one more at a time
  joined_on-sound : (first : Answers) → SoundRule first → (others : List B) → SoundRule (chained first (map answers others))
  joined_on-sound first sound-first [] = sound-first
  joined_on-sound first sound-first (rule ∷ rules) =
      joined_on-sound (joined first (answers rule)) (joined-sound first (answers rule) sound-first (sound rule)) rules

  -- and any number that begin with one
  pub chained-sound : (first : B) (others : List B) → SoundRule (chained (answers first) (map answers others))
  chained-sound first = joined_on-sound (answers first) (sound first)
