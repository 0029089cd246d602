-- `worth`: a package in range supplies so little that any multipliers leave room in 64 bits.
use Rattle.std.proofs.Common.{◌≤◌, ◌-◌, get_or, mul-le-mul, arith}
use Rattle.clearing.proofs.Fits.{package_ranges}
use Rattle.bounds.proofs.multipliers.value_at.Goals as goal

pub returns-clause-bound : goal.returns-clause-bound
returns-clause-bound c =
    let l = c.args.multipliers.now in
    let r = package_ranges c.args.terms.now c.requires in
    let power : get_or l (c.args.terms.now.power_zone - 1) 0 ≤ 4294967295 = omega arith in
    let energy : get_or l 3 0 ≤ 4294967295 = omega arith in
    let certificates : get_or l 4 0 ≤ 4294967295 = omega arith in
    omega (arith, mul-le-mul power r.power, mul-le-mul energy r.energy, mul-le-mul certificates r.certificates)
