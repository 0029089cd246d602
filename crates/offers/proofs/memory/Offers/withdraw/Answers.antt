-- What withdrawing in the entries of one kind's ledger ensures, as what it ensures of all offers; and they are a ledger's again.
use Rattle.offers.specs.declared.kinds.Kind.TheVariants as kind
use Rattle.offers.proofs.LedgerLaws.{withdrawing-is_ledger}
use Rattle.offers.proofs.MemoryLaws.{withdrawn}
use Rattle.offers.proofs.memory.Offers.withdraw.Goals as goal

pub returns-in-Package : goal.returns-in-Package
returns-in-Package c =
    let d = withdrawn c.self.view_is c.args.kind c.args.number kind.Package c.in-Package.is _ _ c.withdraw.ensures.answer c.withdraw.ensures.after in
    record { answer = d.answer_is; after = d.after_is; kept = d.kept }

pub returns-in-Band : goal.returns-in-Band
returns-in-Band c =
    let d = withdrawn c.self.view_is c.args.kind c.args.number kind.Band c.in-Band.is _ _ c.withdraw-in-Band.ensures.answer c.withdraw-in-Band.ensures.after in
    record { answer = d.answer_is; after = d.after_is; kept = d.kept }

pub returns-in-Pair : goal.returns-in-Pair
returns-in-Pair c =
    let d = withdrawn c.self.view_is c.args.kind c.args.number kind.Pair c.in-Pair.is _ _ c.withdraw-in-Pair.ensures.answer c.withdraw-in-Pair.ensures.after in
    record { answer = d.answer_is; after = d.after_is; kept = d.kept }

pub returns-in-Exclusion : goal.returns-in-Exclusion
returns-in-Exclusion c =
    let d = withdrawn c.self.view_is c.args.kind c.args.number kind.Exclusion c.in-Exclusion.is _ _ c.withdraw-in-Exclusion.ensures.answer c.withdraw-in-Exclusion.ensures.after in
    record { answer = d.answer_is; after = d.after_is; kept = d.kept }

pub returns-in-Limit : goal.returns-in-Limit
returns-in-Limit c =
    let d = withdrawn c.self.view_is c.args.kind c.args.number kind.Limit c.in-Limit.is _ _ c.withdraw-in-Limit.ensures.answer c.withdraw-in-Limit.ensures.after in
    record { answer = d.answer_is; after = d.after_is; kept = d.kept }

pub invariant_of-self : goal.invariant_of-self
invariant_of-self c = let h = c.self.invariant in ((((withdrawing-is_ledger h.0.0.0.0 c.args.number c.withdraw.ensures.after, h.0.0.0.1), h.0.0.1), h.0.1), h.1)

pub invariant_of-self-in-Band : goal.invariant_of-self-in-Band
invariant_of-self-in-Band c = let h = c.self.invariant in ((((h.0.0.0.0, withdrawing-is_ledger h.0.0.0.1 c.args.number c.withdraw-in-Band.ensures.after), h.0.0.1), h.0.1), h.1)

pub invariant_of-self-in-Pair : goal.invariant_of-self-in-Pair
invariant_of-self-in-Pair c = let h = c.self.invariant in ((((h.0.0.0.0, h.0.0.0.1), withdrawing-is_ledger h.0.0.1 c.args.number c.withdraw-in-Pair.ensures.after), h.0.1), h.1)

pub invariant_of-self-in-Exclusion : goal.invariant_of-self-in-Exclusion
invariant_of-self-in-Exclusion c = let h = c.self.invariant in ((((h.0.0.0.0, h.0.0.0.1), h.0.0.1), withdrawing-is_ledger h.0.1 c.args.number c.withdraw-in-Exclusion.ensures.after), h.1)

pub invariant_of-self-in-Limit : goal.invariant_of-self-in-Limit
invariant_of-self-in-Limit c = let h = c.self.invariant in ((((h.0.0.0.0, h.0.0.0.1), h.0.0.1), h.0.1), withdrawing-is_ledger h.1 c.args.number c.withdraw-in-Limit.ensures.after)
