-- What a scan answers and which events it writes, from the settings and the records accepted before alone. Records stand latest first.
use Rattle.std.specs.Prelude.{ℕ, zero, suc, ◌*◌, Bool, cond, List, [], ◌∷◌, ◌++◌, map, ltb, length, get_or, drop, Result, Ok, Err}
use Rattle.settings.specs.Counts.{in_all, form_at}
use Rattle.settings.specs.Alarm.{blank}
use Rattle.std.specs.Result.{is_ok}
use Rattle.settings.specs.Refusals.{refusal, and_then}
use Rattle.settings.specs.declared.refusals.Refusal.{Refusal}
use Rattle.settings.specs.declared.refusals.Reason.TheVariants.{EventsTooLong}
use Rattle.settings.specs.declared.types.Alarm.{Alarm}
use Rattle.settings.specs.declared.types.Form.{Form}
use Rattle.settings.specs.declared.types.Settings.{Settings}
use Rattle.event.specs.Event.{Event, event_size, log_bytes}
use Rattle.scan_record.specs.Part.{time_of, reading_at, word_at, offset_of}
use Rattle.scan_record.specs.Check.{check_record}
use Rattle.alarm_history.specs.Scans.{Scan}
use Rattle.alarm_history.specs.Events.{alarm_log}
use Rattle.bank_history.specs.Calls.{Call, scan}

-- the alarm at a place, from 0, and the scans that the records are to it, each by its part
abbrev pub alarm_at : Settings → ℕ → Alarm
alarm_at s place = get_or s.alarms place blank

abbrev pub part_at : Form → List ℕ → ℕ → Scan
part_at form rec at = record { time = time_of rec; reading = reading_at form rec at; word = word_at form rec at }

abbrev pub scan_at : Settings → ℕ → List ℕ → Scan
scan_at s place rec = part_at (form_at s.counts place) rec (offset_of s.counts place)

abbrev pub scans_at : Settings → ℕ → List (List ℕ) → List Scan
scans_at s place records = map (scan_at s place) records

-- the events of a record, of the first n alarms in number order
unfoldable pub scan_log : Settings → List ℕ → List (List ℕ) → ℕ → List Event
scan_log s rec past zero = []
scan_log s rec past (suc n) = scan_log s rec past n ++ alarm_log (suc n) (alarm_at s n) (scan_at s n rec) (scans_at s n past)

abbrev pub log_of : Settings → List ℕ → List (List ℕ) → List Event
log_of s rec past = scan_log s rec past (in_all s.counts)

-- the time of the last accepted record
abbrev pub last_accepted : List (List ℕ) → ℕ
last_accepted [] = 0
last_accepted (rec ∷ past) = time_of rec

-- after the check: 12 where the buffer is too short for 16 bytes an event, or the number of events
abbrev pub with_room : ℕ → ℕ → Result ℕ Refusal
with_room room events = cond (ltb room (event_size * events)) (Err (refusal EventsTooLong 0)) (Ok events)

-- the answer to a record, given the length of the lent buffer: the first of 7 to 12, or the number of events
abbrev pub answer_to : Settings → List (List ℕ) → List ℕ → ℕ → Result ℕ Refusal
answer_to s past rec room = and_then (check_record s.counts (last_accepted past) rec) (λ _. with_room room (length (log_of s rec past)))

-- the buffer after it: the event records in front of what stood behind them; a refusal leaves every byte
abbrev pub logged : Result ℕ Refusal → List ℕ → List ℕ → List ℕ
logged (Ok n) log out = log ++ drop (length log) out
logged (Err r) log out = out

abbrev pub buffer_after : Settings → List (List ℕ) → List ℕ → List ℕ → List ℕ
buffer_after s past rec out = logged (answer_to s past rec (length out)) (log_bytes (log_of s rec past)) out

-- a scan is accepted where none of its refusals applies
abbrev pub accepts : Settings → List (List ℕ) → List ℕ → ℕ → Bool
accepts s past rec room = is_ok (answer_to s past rec room)

-- the records after a call: that of an accepted scan in front of those before it
abbrev pub records_after : Settings → List (List ℕ) → Call → List (List ℕ)
records_after s past (scan rec out) = cond (accepts s past rec (length out)) (rec ∷ past) past

-- the records after a list of calls
unfoldable pub accepted : Settings → List Call → List (List ℕ) → List (List ℕ)
accepted s [] past = past
accepted s (c ∷ calls) past = accepted s calls (records_after s past c)
