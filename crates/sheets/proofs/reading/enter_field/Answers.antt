-- `enter_field`: what a field makes of the entries of its kind, as what it makes of all offers; and they are a ledger's again.
use Rattle.std.proofs.Common.{sym}
use Rattle.offers.specs.declared.kinds.Kind.TheVariants as kind
use Rattle.offers.proofs.LedgerLaws.{still-is_ledger}
use Rattle.sheets.proofs.Enterings.{size_as, takes}
use Rattle.sheets.proofs.reading.enter_field.Goals as goal

pub enter_content-requires : goal.enter_content-requires
enter_content-requires c = record { whole = size_as kind.Package c.args.field.kind _ (sym c.in-Package.is) c.requires; in_range = c.offers.invariant.0.0.0.0.in_range }

pub enter_content-requires-in-Band : goal.enter_content-requires-in-Band
enter_content-requires-in-Band c = record { whole = size_as kind.Band c.args.field.kind _ (sym c.in-Band.is) c.requires; in_range = c.offers.invariant.0.0.0.1.in_range }

pub enter_content-requires-in-Pair : goal.enter_content-requires-in-Pair
enter_content-requires-in-Pair c = record { whole = size_as kind.Pair c.args.field.kind _ (sym c.in-Pair.is) c.requires; in_range = c.offers.invariant.0.0.1.in_range }

pub enter_content-requires-in-Exclusion : goal.enter_content-requires-in-Exclusion
enter_content-requires-in-Exclusion c = record { whole = size_as kind.Exclusion c.args.field.kind _ (sym c.in-Exclusion.is) c.requires; in_range = c.offers.invariant.0.1.in_range }

pub enter_content-requires-in-Limit : goal.enter_content-requires-in-Limit
enter_content-requires-in-Limit c = record { whole = size_as kind.Limit c.args.field.kind _ (sym c.in-Limit.is) c.requires; in_range = c.offers.invariant.1.in_range }

pub invariant_of-offers : goal.invariant_of-offers
invariant_of-offers c = let h = c.offers.invariant in ((((still-is_ledger h.0.0.0.0 c.enter_content.ensures.as_long c.enter_content.ensures.in_range, h.0.0.0.1), h.0.0.1), h.0.1), h.1)

pub invariant_of-offers-in-Band : goal.invariant_of-offers-in-Band
invariant_of-offers-in-Band c = let h = c.offers.invariant in ((((h.0.0.0.0, still-is_ledger h.0.0.0.1 c.enter_content-in-Band.ensures.as_long c.enter_content-in-Band.ensures.in_range), h.0.0.1), h.0.1), h.1)

pub invariant_of-offers-in-Pair : goal.invariant_of-offers-in-Pair
invariant_of-offers-in-Pair c = let h = c.offers.invariant in ((((h.0.0.0.0, h.0.0.0.1), still-is_ledger h.0.0.1 c.enter_content-in-Pair.ensures.as_long c.enter_content-in-Pair.ensures.in_range), h.0.1), h.1)

pub invariant_of-offers-in-Exclusion : goal.invariant_of-offers-in-Exclusion
invariant_of-offers-in-Exclusion c = let h = c.offers.invariant in ((((h.0.0.0.0, h.0.0.0.1), h.0.0.1), still-is_ledger h.0.1 c.enter_content-in-Exclusion.ensures.as_long c.enter_content-in-Exclusion.ensures.in_range), h.1)

pub invariant_of-offers-in-Limit : goal.invariant_of-offers-in-Limit
invariant_of-offers-in-Limit c = let h = c.offers.invariant in ((((h.0.0.0.0, h.0.0.0.1), h.0.0.1), h.0.1), still-is_ledger h.1 c.enter_content-in-Limit.ensures.as_long c.enter_content-in-Limit.ensures.in_range)

pub returns-in-Package : goal.returns-in-Package
returns-in-Package c =
    let done = takes c.offers.view_is c.args.cursor c.args.field.kind kind.Package c.args.field.content.now c.args.field.rest.now _ _ c.in-Package.is c.enter_content.ensures.answer c.enter_content.ensures.after in
    record { answer = done.answers; after = done.leaves; carries = c.enter_content.ensures.carries }

pub returns-in-Band : goal.returns-in-Band
returns-in-Band c =
    let done = takes c.offers.view_is c.args.cursor c.args.field.kind kind.Band c.args.field.content.now c.args.field.rest.now _ _ c.in-Band.is c.enter_content-in-Band.ensures.answer c.enter_content-in-Band.ensures.after in
    record { answer = done.answers; after = done.leaves; carries = c.enter_content-in-Band.ensures.carries }

pub returns-in-Pair : goal.returns-in-Pair
returns-in-Pair c =
    let done = takes c.offers.view_is c.args.cursor c.args.field.kind kind.Pair c.args.field.content.now c.args.field.rest.now _ _ c.in-Pair.is c.enter_content-in-Pair.ensures.answer c.enter_content-in-Pair.ensures.after in
    record { answer = done.answers; after = done.leaves; carries = c.enter_content-in-Pair.ensures.carries }

pub returns-in-Exclusion : goal.returns-in-Exclusion
returns-in-Exclusion c =
    let done = takes c.offers.view_is c.args.cursor c.args.field.kind kind.Exclusion c.args.field.content.now c.args.field.rest.now _ _ c.in-Exclusion.is c.enter_content-in-Exclusion.ensures.answer c.enter_content-in-Exclusion.ensures.after in
    record { answer = done.answers; after = done.leaves; carries = c.enter_content-in-Exclusion.ensures.carries }

pub returns-in-Limit : goal.returns-in-Limit
returns-in-Limit c =
    let done = takes c.offers.view_is c.args.cursor c.args.field.kind kind.Limit c.args.field.content.now c.args.field.rest.now _ _ c.in-Limit.is c.enter_content-in-Limit.ensures.answer c.enter_content-in-Limit.ensures.after in
    record { answer = done.answers; after = done.leaves; carries = c.enter_content-in-Limit.ensures.carries }
