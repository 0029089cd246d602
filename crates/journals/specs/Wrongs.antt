-- What is wrong with a line decides what the line comes to.
use Rattle.std.specs.Prelude.{Ok, Err, Result}
use Rattle.journals.specs.declared.wrongs.Wrong.{Wrong}

-- the second step, where the first gave a value; else what was wrong
infixl 10 ◌>>=◌
abbrev pub ◌>>=◌ : {X Y : Type 0} → Result X Wrong → (X → Result Y Wrong) → Result Y Wrong
Ok x >>= f = f x
Err e >>= f = Err e
