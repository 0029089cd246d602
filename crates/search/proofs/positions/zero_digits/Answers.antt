-- `zero_digits`: a count of choices of a docket ends in no more zeros than a docket has packages.
use Rattle.std.proofs.Common.{arith}
use Rattle.search.proofs.Zeros.{trailing_small, power-smaller}
use Rattle.search.proofs.positions.zero_digits.Goals as goal

pub returns-clause-value : goal.returns-clause-value
returns-clause-value c = λ some most. omega (arith, power-smaller _ 41 _ (trailing_small 64 c.args.number some) (omega arith))
