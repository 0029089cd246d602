-- `sheet_length`: the lengths of the registers, one after the other; each is an array with an entry for each number.
use Rattle.std.proofs.Common.{subst, arith}
use Rattle.offers.specs.Memory.{Sound}
use Rattle.sheets.proofs.Puts.{length_sheet}
use Rattle.offers.proofs.Soundness.{sound-held}
use Rattle.sheets.proofs.writing.sheet_length.Goals as goal

pub returns : goal.returns
returns c =
    let h = c.offers.invariant in
    record {
      value = omega (arith, length_sheet c.offers.view_is);
      sound = subst Sound c.offers.view_is (sound-held _ h.0.0.0.0 h.0.0.0.1 h.0.0.1 h.0.1 h.1);
    }
