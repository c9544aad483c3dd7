-- The report of an alarm as bytes: rows of 32.
use Rattle.std.specs.Prelude.{ℕ, zero, suc, ◌*◌, ◌%◌, ◌^◌, Bool, false, cond, List, [], ◌∷◌, ◌++◌, get_or, map}
use Rattle.std.specs.List.{flat_map}
use Rattle.std.specs.Float.{binary32}
use Rattle.std.specs.Float.Ieee.{to_bits}
use Rattle.wire.specs.Number.{bytes}
use Rattle.report.specs.Empty.{no_status}
use Rattle.report.specs.declared.whole.Whole.{Whole}
use Rattle.report.specs.declared.status.Status.{Status}
use Rattle.report.specs.declared.report.AlarmReport.{AlarmReport}
use Rattle.host_bytes.specs.declared.rows.Row.{Row}

-- bytes of a row, and of a report
abbrev pub row_size : ℕ
row_size = 32

abbrev pub report_size : ℕ
report_size = 7 * row_size

abbrev pub flag : Bool → ℕ
flag b = cond b 1 0

-- four flags, a number of four bytes, three times of eight
unfoldable pub row_bytes : Row → List ℕ
row_bytes w = map flag w.flags ++ (bytes 4 w.number ++ flat_map (bytes 8) w.times)

-- of a whole alarm: enabled, suppressed, InFaulted, SeverityInv; the rate's bit pattern; count reset stamp, elapsed runs
abbrev pub whole_row : Whole → ℕ → Row
whole_row w reset =
    record {
      flags = w.enabled ∷ w.suppressed ∷ w.infaulted ∷ w.severityinv ∷ [];
      number = to_bits binary32 w.rate;
      times = reset ∷ w.high ∷ w.low ∷ [];
    }

-- of a condition: in alarm, acknowledged, two zero bytes; the count's lowest four bytes; alarm, ack and return stamp
abbrev pub status_row : Status → Row
status_row s =
    record {
      flags = s.alarm ∷ s.acked ∷ false ∷ false ∷ [];
      number = s.count % 2 ^ 32;
      times = s.alarmtime ∷ s.acktime ∷ s.returntime ∷ [];
    }

-- the lists that f gives for 0 to n - 1, one after the other
unfoldable pub joined : (ℕ → List ℕ) → ℕ → List ℕ
joined f zero = []
joined f (suc n) = joined f n ++ f n

-- the condition at a place
abbrev pub condition_bytes : List Status → ℕ → List ℕ
condition_bytes cs i = row_bytes (status_row (get_or cs i no_status))

-- six of them
abbrev pub statuses_bytes : List Status → List ℕ
statuses_bytes cs = joined (λ i. condition_bytes cs i) 6

-- seven rows
unfoldable pub report_bytes : AlarmReport → List ℕ
report_bytes r = row_bytes (whole_row r.alarm r.resettime) ++ statuses_bytes r.conditions
