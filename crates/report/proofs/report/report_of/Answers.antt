-- `report::report::report_of` meets its contract: each return takes the case that its test led to. Assumes nothing.
use mathlib.Core.Path.{sym, ◌∙◌}
use native.Mathlib.Omega.{arith}
use Rattle.layout.specs.Internal.Block.{settings_in}
use Rattle.bank.specs.Internal.Words.{bank_in}
use Rattle.report.specs.Empty.{no_report}
use Rattle.report.specs.Internal.Report.{report_of}
use Rattle.report.proofs.Reports.{there-says}
use Rattle.report.proofs.report.report_of.Goals as goal

pub overflow_sub-n : goal.overflow_sub-n
overflow_sub-n c = (there-says _ _ (sym c.is_there.ensures ∙ c.if-is_there.true)).first

pub report_at-requires : goal.report_at-requires
report_at-requires c =
    let t = there-says _ _ (rw c.counts_in.ensures at (sym c.is_there.ensures ∙ c.if-is_there.true)) in
    (omega arith, omega arith)

pub returns-then-is_there : goal.returns-then-is_there
unfolding report_of bank_in settings_in
returns-then-is_there c =
    let t = rw c.counts_in.ensures at (sym c.is_there.ensures ∙ c.if-is_there.true) in
    c.report_at.ensures ∙ rw t

pub returns-else-is_there : goal.returns-else-is_there
unfolding report_of bank_in settings_in no_report
returns-else-is_there c =
    let t = rw c.counts_in.ensures at (sym c.is_there.ensures ∙ c.if-is_there.false) in
    rw (c.refused_report.ensures, c.at.ensures, t)
