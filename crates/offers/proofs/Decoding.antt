-- What the answer of a decoded byte, or of a field's number, says of it.
use Rattle.std.proofs.Common.{◌≡◌, ℕ, zero, suc, ◌<◌, Some, None, Ok, Option, refl, sym, arith}
use Rattle.std.proofs.lemmas.Option.{none-some}
use Rattle.offers.specs.Layouts.{numbered_field}
use Rattle.offers.specs.Marks.{known, decoded}

-- a byte that is decoded stands for the case
pub decoded_some : {C : Type 0} (case : ℕ → Option C) (byte : ℕ) (c : C) → decoded case byte ≡ Ok c → case byte ≡ Some c
decoded_some {C} case byte c e = by (case byte) e
  where
    by : (o : Option C) → known byte o ≡ Ok c → o ≡ Some c
    by (Some d) e = cc
    by None e = let z : ◌≡◌ {A = ℕ} 0 1 = cc in absurd (omega arith)

-- a record with no field to name has none out of range
pub no_field : (n : ℕ) → numbered_field n ≡ None → n ≡ 0
no_field zero e = refl
no_field (suc n) e = absurd (none-some (suc n) (sym e))

-- a number above 0 is that of a field
pub numbered_some : (n : ℕ) → 0 < n → numbered_field n ≡ Some n
numbered_some zero h = absurd (omega arith)
numbered_some (suc n) h = refl
