-- The report of the alarm with a number.
use Rattle.std.specs.Prelude.{ℕ, ◌-◌, ◌*◌, Bool, ◌&&◌, cond, leb, get_or, Ok}
use Rattle.layout.specs.Internal.Block.{mark_at}
use Rattle.settings.specs.Counts.{are_good, in_all}
use Rattle.settings.specs.Alarm.{blank}
use Rattle.settings.specs.declared.counts.Counts.{Counts}
use Rattle.state.specs.Internal.Held.{fresh_state}
use Rattle.bank.specs.Internal.Bank.{Bank}
use Rattle.bank.specs.Internal.Words.{on_reply, fit_of, bank_in}
use Rattle.bank.specs.Lent.{Words}
use Rattle.report.specs.Empty.{refused_report, no_report}
use Rattle.report.specs.Internal.Status.{statuses_of}
use Rattle.report.specs.Internal.Whole.{whole_of}
use Rattle.report.specs.declared.report.AlarmReport.{AlarmReport}

-- alarms are numbered from 1. (Counts over 12 stand in no bank that a call handed back)
unfoldable pub is_there : Counts → ℕ → Bool
is_there counts n = are_good counts && (leb 1 n && leb n (in_all counts))

-- the alarm at a place
unfoldable pub report_at : Bank → ℕ → AlarmReport
report_at b place =
    record {
      reply = Ok tt;
      alarm = whole_of (get_or b.settings.alarms place blank) (get_or b.states place fresh_state) b.time;
      resettime = get_or b.marks (mark_at place) 0;
      conditions = statuses_of (get_or b.settings.alarms place blank).kind b.marks (mark_at place) (get_or b.states place fresh_state).flags;
    }

unfoldable pub report_of : Bank → ℕ → AlarmReport
report_of b n = cond (is_there b.settings.counts n) (report_at b (n - 1)) no_report

-- from words that a caller lends: 42 where they hold no bank
unfoldable pub report_in : Words → ℕ → AlarmReport
report_in w n = on_reply (fit_of w) (report_of (bank_in w) n) (λ r. refused_report r)
