-- The zeros that end a number, and what powers of two divide.
use Rattle.std.proofs.Common.{◌≡◌, ℕ, zero, suc, ◌+◌, ◌-◌, ◌*◌, ◌/◌, ◌%◌, ◌^◌, ◌<◌, ◌≤◌, sym, refl, ap, ◌∙◌, ⊎_elim, mul-le-mul_right, suc-mul, add-one, arith, pow_mono, pow-add, shr_lt}
use native.Mathlib.Nat.{mod-one}
use Rattle.std.proofs.lemmas.Nat.Gcd.{le_of_dvd, dvd_of_mod-eq-zero}
use lib.Count.{count_trailing_zeros, under}
use lib.Pow.{split, mod-pow-add}
use Rattle.std.proofs.lemmas.Bool.{cases_lt}

-- the zeros above a lowest digit, and it, divide the number if those above it divide its half
under_divides : (d n t : ℕ) → n % 2 ≡ d → n / 2 % 2 ^ t ≡ 0 → n % 2 ^ under d t ≡ 0
under_divides zero n t even half =
    let digits : n % 2 ^ (t + 1) ≡ (n / 2 % 2 ^ t) * 2 + n % 2 = mod-pow-add n t 1 in
    rw (← add-one t) (omega (arith, digits))
under_divides (suc d) n t odd half = mod-one n

-- a number is divided by the power of two that its zeros make
pub trailing_divides : (k n : ℕ) → n % 2 ^ count_trailing_zeros k n ≡ 0
unfolding count_trailing_zeros
trailing_divides zero n = mod-one n
trailing_divides (suc k) n = under_divides (n % 2) n (count_trailing_zeros k (n / 2)) refl (trailing_divides k (n / 2))

-- and, of a number above 0, is at most it
pub trailing_small : (k n : ℕ) → 0 < n → 2 ^ count_trailing_zeros k n ≤ n
trailing_small k n some = le_of_dvd some (dvd_of_mod-eq-zero (2 ^ count_trailing_zeros k n) (trailing_divides k n))

-- below a power of two, what a smaller one divides leaves room for it
pub power_room : (first k n : ℕ) → first % 2 ^ k ≡ 0 → first < 2 ^ n → k ≤ n → first + 2 ^ k ≤ 2 ^ n
power_room first k n divides below few =
    let whole : n - k + k ≡ n = omega arith in
    let room : first < 2 ^ (n - k + k) = rw whole below in
    let next = mul-le-mul_right (2 ^ k) (shr_lt (n - k) k room) in
    let all : 2 ^ (n - k) * 2 ^ k ≡ 2 ^ n = sym (pow-add 2 (n - k) k) ∙ ap (λ x. 2 ^ x) whole in
    omega (arith, next, all, split first k, suc-mul (first / 2 ^ k) (2 ^ k))

-- a power of two that is at most a number below another has the smaller exponent
pub power-smaller : (z n m : ℕ) → 2 ^ z ≤ m → m < 2 ^ n → z < n
power-smaller z n m least below =
    ⊎_elim (λ (h : z < n). h) (λ (h : n ≤ z). absurd (omega (arith, pow_mono h))) (cases_lt z n)
