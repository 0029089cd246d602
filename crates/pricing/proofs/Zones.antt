-- The numbers of the price zones, each in its range.
use Rattle.std.proofs.Common.{◌≡◌, ℕ, zero, suc, ◌≤◌, true, List, [], ◌∷◌, get_or, ℤ, pos, negsuc, nat_abs, zero-le, arith}
use lib.Signed.{le_z}
use Rattle.std.proofs.lemmas.Int.{ints}
use Rattle.std.proofs.lemmas.Bool.{and_parts}
use Rattle.pricing.specs.Numbers.{zone_number, zone_numbers}

-- a number in range lies within a thousand
pub number_span : (n : ℤ) → zone_number n ≡ true → nat_abs n ≤ 1000
number_span n e = let h = and_parts (le_z (negsuc 999) n) (le_z n (pos 1000)) e in omega (arith, ints)

-- the number at any place lies within, and so does the 0 past the last
pub zone_span : (ns : List ℤ) (i : ℕ) → zone_numbers ns ≡ true → nat_abs (get_or ns i (pos 0)) ≤ 1000
zone_span [] i e = zero-le
zone_span (n ∷ ns) zero e = number_span n (and_parts (zone_number n) (zone_numbers ns) e).0
zone_span (n ∷ ns) (suc i) e = zone_span ns i (and_parts (zone_number n) (zone_numbers ns) e).1
