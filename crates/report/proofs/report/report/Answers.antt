-- `report::report::report` meets its contract: by what the fit says. Assumes nothing.
use mathlib.Core.Path.{sym, ◌∙◌}
use Rattle.report.proofs.Reports.{report-accepted, report-unfit}
use Rattle.report.proofs.report.report.Goals as goal

pub returns-in-Ok : goal.returns-in-Ok
returns-in-Ok c =
    let fits = c.in-Ok.ensures in
    rw fits.blocks at c.report_of.ensures ∙ sym (report-accepted _ _ (sym fits.reply))

pub returns-in-Err : goal.returns-in-Err
returns-in-Err c = c.refused_report.ensures ∙ sym (report-unfit _ _ (sym c.in-Err.ensures.reply))
