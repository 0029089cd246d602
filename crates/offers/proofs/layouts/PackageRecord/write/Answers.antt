-- `write` of a package: field by field, until the slice is full.
use Rattle.std.proofs.Common.{arith}
use Rattle.offers.specs.Laws.HighFirst.{filled}
use Rattle.offers.proofs.layouts.PackageRecord.write.Goals as goal

pub returns : goal.returns
returns c =
    filled 31 c.put-12.new.out _ (omega arith) (rw (
      c.put-12.ensures.front,
      c.put-11.ensures.front,
      c.put-10.ensures.front,
      c.put-9.ensures.front,
      c.put-8.ensures.front,
      c.put-7.ensures.front,
      c.put-6.ensures.front,
      c.put-5.ensures.front,
      c.put-4.ensures.front,
      c.put-3.ensures.front,
      c.put-2.ensures.front,
      c.put.ensures.front,
    ))
