-- What a report says where nothing is: all zeros and false.
use Rattle.std.specs.Prelude.{false, List, replicate, Err}
use Rattle.wire.specs.Real.{zero_real}
use Rattle.settings.specs.Refusals.{refusal}
use Rattle.settings.specs.declared.refusals.Refusal.{Refusal}
use Rattle.settings.specs.declared.refusals.Reason.TheVariants.{NoSuchAlarm}
use Rattle.report.specs.declared.status.Status.{Status}
use Rattle.report.specs.declared.whole.Whole.{Whole}
use Rattle.report.specs.declared.report.AlarmReport.{AlarmReport}

-- no condition
abbrev pub no_status : Status
no_status = record { alarm = false; acked = false; count = 0; alarmtime = 0; acktime = 0; returntime = 0 }

unfoldable pub no_statuses : List Status
no_statuses = replicate 6 no_status

-- no alarm
abbrev pub no_whole : Whole
no_whole = record { enabled = false; suppressed = false; infaulted = false; severityinv = false; rate = zero_real; high = 0; low = 0 }

-- a report that was refused
unfoldable pub refused_report : Refusal → AlarmReport
refused_report r = record { reply = Err r; alarm = no_whole; resettime = 0; conditions = no_statuses }

-- there is no such alarm
unfoldable pub no_report : AlarmReport
no_report = refused_report (refusal NoSuchAlarm 0)
