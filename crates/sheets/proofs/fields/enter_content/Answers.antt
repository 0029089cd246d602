-- `enter_content`: the tests are the checks of a content, in their order.
use Rattle.std.proofs.Common.{sym, ap, ◌∙◌}
use Rattle.offers.proofs.Decoding.{no_field}
use Rattle.offers.proofs.RegisterLaws.{set-in_range}
use Rattle.offers.specs.Registers.{entry_fault}
use Rattle.sheets.specs.Fields.{number_in, status_withdrawn}
use Rattle.sheets.proofs.Contents.{entry-in_range, joined-in_range}
use Rattle.sheets.proofs.fields.enter_content.Goals as goal

pub agrees-requires-clause-entry_in_range : goal.agrees-requires-clause-entry_in_range
agrees-requires-clause-entry_in_range g c =
    let es = c.args.entries.now in
    entry-in_range g.R.Record.layout es (number_in c.args.content.now) c.in-Some.at (sym c.place_of.ensures ∙ c.in-Some.is)
    _ c.index-entries-at.is c.requires.in_range

pub returns-clause-in_range : goal.returns-clause-in_range
returns-clause-in_range g c =
    let es = c.args.entries.now in
    let held =
    entry-in_range g.R.Record.layout es (number_in c.args.content.now) c.in-Some.at (sym c.place_of.ensures ∙ c.in-Some.is)
    _ c.index-entries-at.is c.requires.in_range in
    let fine = no_field _ (sym c.fault.ensures ∙ c.in_default-fault.is) in
    set-in_range g.R.Record.layout es c.in-Some.at c.joined_entry.result c.requires.in_range
    (ap (entry_fault g.R.Record.layout) c.joined_entry.ensures ∙ joined-in_range g.R.Record.layout _ (status_withdrawn c.in-Ok.status) _ held fine)
