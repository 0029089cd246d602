-- `Report::new`: the row that the award gives has, for each open band, the sale that fills it.
use Rattle.std.proofs.Common.{◌≡◌, map, ◌∙◌, subst, rules}
use Rattle.clearing.specs.Ranged.{Ranged, lists}
use Rattle.rounds.specs.Model.{sold_row}
use Rattle.reports.specs.Reports.{sold_line}
use Rattle.reports.proofs.FilledBands.{sold_filled}
use Rattle.reports.proofs.report.Report.new.Goals as goal

pub returns : goal.returns
returns c =
    let v = c.args.round.now.docket in
    let choice = c.args.round.now.at.leader in
    let bands : c.in_ok-sold_quantities.field-0.items ≡ map (sold_line (sold_row v choice)) v.bands = search rules in
    let same : lists c.docket.inside ≡ v = cc in
    record {
      open_packages = search rules;
      all_choices = search rules;
      packages = search rules;
      bands = bands;
      sales = bands ∙ sold_filled v choice (subst Ranged same c.docket.invariant);
      worth = search rules;
    }
