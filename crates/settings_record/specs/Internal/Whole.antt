-- Records that are there whole, by their own bytes.
use Rattle.std.specs.Prelude.{ℕ, List, Result, Ok, Err}
use Rattle.settings.specs.Refusals.{checked}
use Rattle.settings.specs.declared.types.Form.{Form}
use Rattle.settings_record.specs.Record.{fields_at, checks_of}
use Rattle.settings.specs.declared.types.Alarm.{Alarm}
use Rattle.settings.specs.declared.refusals.Refusal.{Refusal}

-- the alarm that the bytes of a record say, where its checks hold; `at` is where the record stands in its image
abbrev pub whole_record : Form → List ℕ → ℕ → Result Alarm Refusal
whole_record form bytes at =
    let a = fields_at form bytes 0 in
    checked (checks_of a.kind a.flags a.duration at) a

-- what was read, with a number beside it
abbrev pub along : {A : Type 0} → ℕ → Result A Refusal → Result (A × ℕ) Refusal
along n (Ok x) = Ok (x, n)
along n (Err e) = Err e
