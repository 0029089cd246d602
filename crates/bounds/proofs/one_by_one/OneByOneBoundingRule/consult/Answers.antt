-- `consult` of one-by-one: each turn counts one more package, and the gains of 40 have room in 64 bits.
use Rattle.std.proofs.Common.{◌≡◌, ℕ, ◌+◌, ◌^◌, ◌<◌, pos, ◌+ℤ◌, ◌-ℤ◌, sym, refl, ◌∙◌, ap, add-one, arith}
use Rattle.std.specs.Int.{int_max}
use Rattle.std.proofs.lemmas.Nat.{one_shl}
use Rattle.std.proofs.lemmas.Int.{ints, clamps}
use Rattle.clearing.specs.Lawful.{View}
use Rattle.bounds.specs.Rules.{unlimited, lone_gains}
use Rattle.bounds.proofs.one_by_one.OneByOneBoundingRule.consult.Goals as goal

-- one digit more
gains_more : (v : View) (choice digit : ℕ) → lone_gains v choice (digit + 1) ≡ lone_gains v choice digit +ℤ int_max (unlimited v (choice + 2 ^ digit) -ℤ unlimited v choice) (pos 0)
gains_more v choice digit = rw (add-one digit) refl

pub overflow_add-cap : goal.overflow_add-cap
overflow_add-cap c = omega (arith, ints, clamps, c.block.invariant.few)

pub loop-digit-preserved : goal.loop-digit-preserved
loop-digit-preserved c =
    let v = c.args.docket.now in
    let first = c.block.inside.first in
    let digit = c.loop-digit.digit in
    let small : digit < 64 = omega (arith, c.block.invariant.few) in
    let fixed = c.unlimited_surplus-fixed.ensures in
    let alone = c.unlimited_surplus-alone.ensures in
    let at : unlimited v (first + 2 ^ digit) ≡ c.unlimited_surplus-alone.result = ap (λ n. unlimited v (first + n)) (sym (one_shl digit 64 small)) ∙ sym alone.value in
    let more = gains_more v first digit in
    let few = c.block.invariant.few in
    let inv = c.loop-digit.invariant in
    (omega (arith, ints, clamps), omega (arith, ints, clamps), omega (arith, ints, clamps))
