-- A section: its count, then a record for each alarm, the first refusal ending it.
use Rattle.std.specs.Prelude.{ℕ, zero, suc, ◌+◌, List, set, Result, Ok}
use Rattle.reader.specs.Count.{count_at}
use Rattle.settings_record.specs.Record.{record_at}
use Rattle.settings.specs.Refusals.{and_then}
use Rattle.settings.specs.declared.refusals.Refusal.{Refusal}
use Rattle.settings.specs.declared.types.Alarm.{Alarm}
use Rattle.settings.specs.declared.types.Form.{Form}

-- a section that was read: the alarms with its own in their places, how many these are, and the offset past it
pub record Section : Type 0 where
  pub alarms : List Alarm
  pub count : ℕ
  pub next : ℕ

-- a section of n alarms, of which k are left to read, the next at offset `at` and for the place `place`
unfoldable pub records_from : Form → List ℕ → ℕ → ℕ → ℕ → ℕ → List Alarm → Result Section Refusal
records_from form image n zero place at alarms = Ok (record { alarms = alarms; count = n; next = at })
records_from form image n (suc k) place at alarms =
    and_then (record_at form image at) (λ r. records_from form image n k (place + 1) r.1 (set alarms place r.0))

-- the section at an offset, its first alarm having the place `first`
unfoldable pub section_at : Form → List ℕ → ℕ → ℕ → List Alarm → Result Section Refusal
section_at form image first at alarms = and_then (count_at image at) (λ c. records_from form image c.0 c.0 first c.1 alarms)
