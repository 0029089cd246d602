-- What the loops of `fmt` keep true: the lines of the packages or the bands so far are written.
use Rattle.reports.specs.Text.{package_line, band_line}
use Rattle.reports.proofs.Printed.{Lined}
use Rattle.reports.proofs.report.ReportDisplay.fmt.Given as goal

abbrev pub invariant-loop-number : goal.invariant-loop-number
invariant-loop-number g l = Lined g.W.Write.write_str_gives package_line l.number-items l.initial.f l.number-index l.f

abbrev pub invariant-loop-sold : goal.invariant-loop-sold
invariant-loop-sold g l = Lined g.W.Write.write_str_gives band_line l.sold-items l.initial.f l.sold-index l.f
