-- What filing in the entries of one kind's ledger ensures, as what it ensures of all offers; and they are a ledger's again.
use Rattle.std.proofs.Common.{ap}
use Rattle.offers.specs.declared.kinds.Kind.TheVariants as kind
use Rattle.offers.specs.Memory.{file_offer}
use Rattle.offers.proofs.LedgerLaws.{filing-is_ledger}
use Rattle.offers.proofs.MemoryLaws.{filed}
use Rattle.offers.proofs.memory.Offers.file.Goals as goal

pub returns-in-Package : goal.returns-in-Package
returns-in-Package c =
    let d = filed c.self.view_is c.args.number c.args.offer kind.Package c.in-Package.new (ap (file_offer _ c.args.number) c.in-Package.is) _ _ c.file.ensures.answer c.file.ensures.after in
    record { answer = d.answer_is; after = d.after_is; kept = d.kept }

pub returns-in-Band : goal.returns-in-Band
returns-in-Band c =
    let d = filed c.self.view_is c.args.number c.args.offer kind.Band c.in-Band.new (ap (file_offer _ c.args.number) c.in-Band.is) _ _ c.file-in-Band.ensures.answer c.file-in-Band.ensures.after in
    record { answer = d.answer_is; after = d.after_is; kept = d.kept }

pub returns-in-Pair : goal.returns-in-Pair
returns-in-Pair c =
    let d = filed c.self.view_is c.args.number c.args.offer kind.Pair c.in-Pair.new (ap (file_offer _ c.args.number) c.in-Pair.is) _ _ c.file-in-Pair.ensures.answer c.file-in-Pair.ensures.after in
    record { answer = d.answer_is; after = d.after_is; kept = d.kept }

pub returns-in-Exclusion : goal.returns-in-Exclusion
returns-in-Exclusion c =
    let d = filed c.self.view_is c.args.number c.args.offer kind.Exclusion c.in-Exclusion.new (ap (file_offer _ c.args.number) c.in-Exclusion.is) _ _ c.file-in-Exclusion.ensures.answer c.file-in-Exclusion.ensures.after in
    record { answer = d.answer_is; after = d.after_is; kept = d.kept }

pub returns-in-Limit : goal.returns-in-Limit
returns-in-Limit c =
    let d = filed c.self.view_is c.args.number c.args.offer kind.Limit c.in-Limit.new (ap (file_offer _ c.args.number) c.in-Limit.is) _ _ c.file-in-Limit.ensures.answer c.file-in-Limit.ensures.after in
    record { answer = d.answer_is; after = d.after_is; kept = d.kept }

pub invariant_of-self : goal.invariant_of-self
invariant_of-self c = let h = c.self.invariant in ((((filing-is_ledger h.0.0.0.0 c.args.number c.in-Package.new c.file.ensures.after, h.0.0.0.1), h.0.0.1), h.0.1), h.1)

pub invariant_of-self-in-Band : goal.invariant_of-self-in-Band
invariant_of-self-in-Band c = let h = c.self.invariant in ((((h.0.0.0.0, filing-is_ledger h.0.0.0.1 c.args.number c.in-Band.new c.file-in-Band.ensures.after), h.0.0.1), h.0.1), h.1)

pub invariant_of-self-in-Pair : goal.invariant_of-self-in-Pair
invariant_of-self-in-Pair c = let h = c.self.invariant in ((((h.0.0.0.0, h.0.0.0.1), filing-is_ledger h.0.0.1 c.args.number c.in-Pair.new c.file-in-Pair.ensures.after), h.0.1), h.1)

pub invariant_of-self-in-Exclusion : goal.invariant_of-self-in-Exclusion
invariant_of-self-in-Exclusion c = let h = c.self.invariant in ((((h.0.0.0.0, h.0.0.0.1), h.0.0.1), filing-is_ledger h.0.1 c.args.number c.in-Exclusion.new c.file-in-Exclusion.ensures.after), h.1)

pub invariant_of-self-in-Limit : goal.invariant_of-self-in-Limit
invariant_of-self-in-Limit c = let h = c.self.invariant in ((((h.0.0.0.0, h.0.0.0.1), h.0.0.1), h.0.1), filing-is_ledger h.1 c.args.number c.in-Limit.new c.file-in-Limit.ensures.after)
