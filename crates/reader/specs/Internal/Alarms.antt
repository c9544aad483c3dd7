-- What reading a section does to the alarms that are lent, whether it is read or refused; its answer without them.
use Rattle.std.specs.Prelude.{ℕ, zero, suc, ◌+◌, List, set, Result, Ok, Err}
use Rattle.settings.specs.Refusals.{and_then}
use Rattle.settings.specs.declared.refusals.Refusal.{Refusal}
use Rattle.settings.specs.declared.types.Alarm.{Alarm}
use Rattle.settings.specs.declared.types.Form.{Form}
use Rattle.settings_record.specs.Record.{record_at}
use Rattle.reader.specs.Count.{count_at}
use Rattle.reader.specs.Section.{Section}

-- how many alarms a section has and the offset past it
abbrev pub span_of : Result Section Refusal → Result (ℕ × ℕ) Refusal
span_of r = and_then r (λ s. Ok (s.count, s.next))

-- the alarms after what was read; a refusal leaves them as they stand
abbrev pub alarms_then : {A : Type 0} → Result A Refusal → List Alarm → (A → List Alarm) → List Alarm
alarms_then (Ok a) alarms f = f a
alarms_then (Err r) alarms f = alarms

-- of k records, the first at offset `at` and for the place `place`: each that is read puts its alarm in its place, and the next follows
unfoldable pub records_alarms : Form → List ℕ → ℕ → ℕ → ℕ → List Alarm → List Alarm
records_alarms form image zero place at alarms = alarms
records_alarms form image (suc k) place at alarms =
    alarms_then (record_at form image at) alarms (λ r. records_alarms form image k (place + 1) r.1 (set alarms place r.0))

-- of the section at an offset, its first alarm having the place `first`
unfoldable pub section_alarms : Form → List ℕ → ℕ → ℕ → List Alarm → List Alarm
section_alarms form image first at alarms = alarms_then (count_at image at) alarms (λ c. records_alarms form image c.0 first c.1 alarms)
