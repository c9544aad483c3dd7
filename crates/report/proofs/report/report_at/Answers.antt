-- `report::report::report_at` meets its contract: each part is read off the alarm's own words. Assumes nothing.
use borrow.Author.Rules.{rules}
use native.Mathlib.Nat.{add-zero}
use native.Mathlib.Omega.{arith}
use Rattle.state.specs.Internal.State.{state_in}
use Rattle.bank.specs.Internal.Blocks.{words_under}
use Rattle.layout.proofs.Laws.{get_or-part, alarm-cut}
use Rattle.state.proofs.Back.{state-cut}
use Rattle.report.proofs.Reports.{report-on, statuses-cut}
use Rattle.report.proofs.report.report_at.Goals as goal

pub returns : goal.returns
unfolding state_in
returns c =
    rw (
      report-on (words_under c.args.bank.now) c.args.index (search rules) (search rules),
      c.whole_alarm.ensures,
      c.statuses.ensures,
      c.lower.ensures,
      c.alarm_in-alarm.ensures,
      c.form_at-form.ensures,
      c.counts_in.ensures,
      c.settings_in.ensures,
      c.state_in-state.ensures,
      c.marks_in-marks.ensures,
      alarm-cut,
      state-cut,
      statuses-cut,
      get_or-part _ _ 25 0 0 (omega arith),
      add-zero,
      get_or-part _ _ 11 0 0 (omega arith),
      add-zero,
    )
