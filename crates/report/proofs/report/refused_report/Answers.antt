-- `report::report::refused_report` meets its contract. Assumes nothing.
use Rattle.report.specs.Empty.{refused_report}
use Rattle.report.proofs.report.refused_report.Goals as goal

pub returns : goal.returns
unfolding refused_report
returns c = rw (c.no_whole.ensures, c.no_statuses.ensures)
