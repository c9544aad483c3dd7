-- What a report says of an alarm, from the settings and the accepted records alone.
use Rattle.std.specs.Prelude.{ℕ, ◌-◌, Bool, false, not, ◌&&◌, ◌||◌, cond, leb, take, Float, Ok}
use mathlib.Core.List.{List, ◌++◌, map, foldr}
use Rattle.wire.specs.Real.{zero_real}
use Rattle.settings.specs.Counts.{in_all}
use Rattle.settings.specs.Numbers.{reals, analog_reals}
use Rattle.settings.specs.Condition.{Condition, In, HH, L, conditions_of, severity_of}
use Rattle.settings.specs.declared.types.Alarm.{Alarm}
use Rattle.settings.specs.declared.types.Kind.{Kind}
use Rattle.settings.specs.declared.types.Kind.TheVariants.{Digital, Analog}
use Rattle.settings.specs.declared.types.Settings.{Settings}
use Rattle.history.specs.Demand.{in_alarm, unacknowledged, count}
use Rattle.settings.specs.Severity.{severity_invalid}
use Rattle.alarm_history.specs.Scans.{Scan, disabled_in, suppressed_in, faulted_in}
use Rattle.alarm_history.specs.Sample.{rate_in}
use Rattle.alarm_history.specs.Facts.{Rules, rules_of, facts}
use Rattle.alarm_history.specs.Stamps.{reset_stamp, alarm_stamp, ack_stamp, return_stamp, elapsed_in}
use Rattle.report.specs.Empty.{no_statuses, no_report}
use Rattle.report.specs.declared.status.Status.{Status}
use Rattle.report.specs.declared.report.AlarmReport.{AlarmReport}
use Rattle.bank_history.specs.Answers.{alarm_at, scans_at}

-- SeverityInv: any of the alarm's severities is out of range
abbrev pub severity_inv : Kind → Bool
severity_inv kind = foldr (λ c rest. severity_invalid (severity_of kind c) || rest) false (conditions_of kind)

-- the rate; a digital alarm has none, and 0 is said
abbrev pub rate_of : Kind → Alarm → List Scan → Float
rate_of (Digital severity) a scans = zero_real
rate_of (Analog limits severities period) a scans = rate_in reals (analog_reals a.flags a.duration limits period) scans

-- the elapsed runs: of a digital alarm's one condition, of each side of an analog one
abbrev pub high_run : Kind → Rules → List Scan → ℕ
high_run (Digital severity) r scans = elapsed_in r In scans
high_run (Analog limits severities period) r scans = elapsed_in r HH scans

abbrev pub low_run : Kind → Rules → List Scan → ℕ
low_run (Digital severity) r scans = 0
low_run (Analog limits severities period) r scans = elapsed_in r L scans

abbrev pub status_of : Rules → List Scan → Condition → Status
status_of r scans c = record {
  alarm = in_alarm (facts r) scans c;
  acked = not (unacknowledged (facts r) scans c);
  count = count (facts r) scans c;
  alarmtime = alarm_stamp r c scans;
  acktime = ack_stamp r c scans;
  returntime = return_stamp r c scans;
}

-- the report has room for six conditions
abbrev pub alarm_report : Alarm → List Scan → AlarmReport
alarm_report a scans = record {
  reply = Ok tt;
  alarm = record {
    enabled = not (disabled_in scans);
    suppressed = suppressed_in scans;
    infaulted = faulted_in scans;
    severityinv = severity_inv a.kind;
    rate = rate_of a.kind a scans;
    high = high_run a.kind (rules_of a) scans;
    low = low_run a.kind (rules_of a) scans;
  };
  resettime = reset_stamp scans;
  conditions = take 6 (map (status_of (rules_of a) scans) (conditions_of a.kind) ++ no_statuses);
}

-- of alarm n, from 1; 14 where there is none
abbrev pub report_after : Settings → List (List ℕ) → ℕ → AlarmReport
report_after s records n = cond (leb 1 n && leb n (in_all s.counts)) (alarm_report (alarm_at s (n - 1)) (scans_at s (n - 1) records)) no_report
