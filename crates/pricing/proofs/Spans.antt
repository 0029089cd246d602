-- How far from zero a product lies, and a price.
use Rattle.std.proofs.Common.{◌≡◌, ℕ, suc, ◌*◌, ◌≤◌, ℤ, pos, negsuc, ◌*ℤ◌, nat_abs, Ok, Result, sym, subst, arith}
use Rattle.std.proofs.lemmas.Nat.{mul-le}
use Rattle.std.proofs.lemmas.Int.{ints}
use Rattle.pricing.specs.Prices.{Bounded}
use Rattle.pricing.specs.declared.rules.Fault.{Fault}

-- a product lies no further out than the product of the two limits
pub product_span : (a : ℤ) (b m n : ℕ) → nat_abs a ≤ m → b ≤ n → nat_abs (a *ℤ pos b) ≤ m * n
product_span (pos a) b m n h k = mul-le a b m n h k
product_span (negsuc a) b m n h k = omega (arith, ints, mul-le (suc a) b m n h k)

-- a price that a rule answers lies within the limits of a price
pub price_span : (r : Result ℤ Fault) {price : ℤ} → Ok price ≡ r → Bounded r → nat_abs price ≤ 20000000000
price_span r {price} e b = let h : Bounded (Ok price) = subst Bounded (sym e) b in omega (arith, ints)
