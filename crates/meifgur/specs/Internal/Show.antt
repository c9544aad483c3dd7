-- The lines of events, and of conditions at the end, as text: 32 stands between two numbers, and 10 at the end.
use Rattle.std.specs.Prelude.{ℕ, ◌+◌, ◌*◌, ◌-◌, ◌/◌, List, [], ◌∷◌, ◌++◌, length, take, replicate, flat_map}
use Rattle.std.specs.Prelude.{slice_index, cond, not, ltb, Result, Ok, Err, codes}
use Rattle.std.specs.Int.{from_bool}
use Rattle.std.specs.List.{range_with_len}
use Rattle.std.specs.Simd.{first_chunks}
use Rattle.std.specs.Fmt.{decimal}
use Rattle.wire.specs.Number.{number}
use Rattle.settings.specs.Counts.{form_at}
use Rattle.settings.specs.declared.types.Form.{Form}
use Rattle.settings.specs.declared.refusals.Refusal.{Refusal}
use Rattle.layout.specs.Internal.Block.{counts_in}
use Rattle.bank.specs.Lent.{Words}
use Rattle.report.specs.Internal.Report.{report_in}
use Rattle.scan.specs.Internal.Words.{buffer_of}
use Rattle.report.specs.declared.report.AlarmReport.{AlarmReport}
use Rattle.report.specs.declared.status.Status.{Status}
use Rattle.bank_text.specs.Internal.Owned.{alarms_of, said_of}
use Rattle.event.specs.Event.{event_size, events_enough}
use Rattle.bank_text.specs.Internal.Show.{first_number, end_of_numbers}

-- what an event record says: time, alarm, condition, kind, severity, suppressed
abbrev pub event_text : List ℕ → List ℕ
event_text event =
    decimal (number event 8 8)
    ++ 32 ∷ decimal (slice_index event 0)
    ++ 32 ∷ decimal (slice_index event 1)
    ++ 32 ∷ decimal (slice_index event 2)
    ++ 32 ∷ decimal (number event 4 2)
    ++ 32 ∷ decimal (slice_index event 3)

-- its line
abbrev pub event_line : List ℕ → List ℕ
event_line event = event_text event ++ 10 ∷ []

-- the lines of all whole records of a list of bytes
abbrev pub event_lines : List ℕ → List ℕ
event_lines events = flat_map event_line (first_chunks event_size (length events / event_size) events)

-- the bytes of so many events of a scan, in a buffer with room for the most
abbrev pub scan_events : Words → List ℕ → ℕ → List ℕ
scan_events words bytes number = take (number * event_size) (buffer_of words bytes (replicate events_enough 0))

-- what is said of a condition at the end: alarm, condition, in alarm, unacknowledged, count
abbrev pub condition_text : ℕ → ℕ → Status → List ℕ
condition_text alarm condition status =
    codes "end " ++ decimal alarm
    ++ 32 ∷ decimal condition
    ++ 32 ∷ decimal (from_bool status.alarm)
    ++ 32 ∷ decimal (from_bool (not status.acked))
    ++ 32 ∷ decimal status.count

-- its line
abbrev pub condition_line : ℕ → ℕ → Status → List ℕ
condition_line alarm condition status = condition_text alarm condition status ++ 10 ∷ []

-- the lines of an alarm's conditions, of which the first has a number, up to an end
abbrev pub lines_from : ℕ → ℕ → ℕ → List Status → List ℕ
lines_from alarm condition end [] = []
lines_from alarm condition end (status ∷ rest) =
    cond (ltb condition end) (condition_line alarm condition status ++ lines_from alarm (condition + 1) end rest) []

-- the lines of what a bank says of an alarm; none where no alarm has the number
abbrev pub said_lines : ℕ → Form → Result AlarmReport Refusal → List ℕ
said_lines alarm form (Ok found) = lines_from alarm (first_number form) (end_of_numbers form) found.conditions
said_lines alarm form (Err refusal) = []

-- the lines of the alarm with a number
abbrev pub alarm_lines : Words → ℕ → List ℕ
alarm_lines words alarm = said_lines alarm (form_at (counts_in words.settings) (alarm - 1)) (said_of (report_in words alarm))

-- the lines of all alarms, by their numbers
abbrev pub bank_lines : Words → List ℕ
bank_lines words = flat_map (alarm_lines words) (range_with_len 1 (alarms_of words))
