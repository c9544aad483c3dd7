-- Settings images, scan records and what calls on them give, for the marked cases. Assumes nothing.
use Prim.Native.Nat.{ℕ}
use mathlib.Core.Bool.{false}
use mathlib.Core.List.{List, [], ◌∷◌, ◌++◌, map}
use lib.ListN.{get_or, replicate}
use Rattle.wire.specs.Number.{bytes}
use Rattle.wire.specs.Internal.Words.{words}
use Rattle.event.specs.Event.{Event}
use Rattle.reader.specs.Read.{settings_of}
use Rattle.report.specs.Empty.{no_status}
use Rattle.report.specs.declared.status.Status.{Status}
use Rattle.report.specs.declared.report.AlarmReport.{AlarmReport}
use Rattle.bank_history.specs.Calls.{Call, scan}
use Rattle.bank_history.specs.Answers.{buffer_after, accepted}
use Rattle.bank_history.specs.Report.{report_after}

-- ---- images of one alarm

-- a digital alarm: flags, Severity, MinDuration
unfoldable pub digital_image : ℕ → ℕ → ℕ → List ℕ
digital_image flags severity duration = 1 ∷ flags ∷ (bytes 4 severity ++ (bytes 4 duration ++ (0 ∷ [])))

-- an analog alarm with every Severity 500: flags, the REALs HH, H, L, LL, Deadband, ROCPosLimit, ROCNegLimit by their patterns, ROCPeriod, MinDuration
pub record Numbers : Type 0 where
  pub hh : ℕ
  pub h : ℕ
  pub l : ℕ
  pub ll : ℕ
  pub deadband : ℕ
  pub rocpos : ℕ
  pub rocneg : ℕ

unfoldable pub analog_image : ℕ → Numbers → ℕ → ℕ → List ℕ
analog_image flags g period duration =
    0 ∷ 1 ∷ flags
    ∷ words (500 ∷ 500 ∷ 500 ∷ 500 ∷ 500 ∷ 500 ∷ g.hh ∷ g.h ∷ g.l ∷ g.ll ∷ g.deadband ∷ g.rocpos ∷ g.rocneg ∷ period ∷ duration ∷ [])

-- ---- records of one alarm: time, reading, command word

unfoldable pub bit : ℕ → ℕ → ℕ → List ℕ
bit time reading word = bytes 8 time ++ (reading ∷ bytes 4 word)

unfoldable pub real : ℕ → ℕ → ℕ → List ℕ
real time pattern word = bytes 8 time ++ (bytes 4 pattern ++ bytes 4 word)

-- ---- what calls give

-- calls with an event buffer of 64 bytes
abbrev pub calls : List (List ℕ) → List Call
calls records = map (λ rec. scan rec (replicate 64 0)) records

-- the event buffer of `room` zero bytes after the next record, when these were handed in before it
abbrev pub written : List ℕ → List (List ℕ) → List ℕ → ℕ → List ℕ
written image records rec room = buffer_after (settings_of image) (accepted (settings_of image) (calls records) []) rec (replicate room 0)

-- the report of alarm 1 after these records, and of its condition at a place
abbrev pub report : List ℕ → List (List ℕ) → AlarmReport
report image records = report_after (settings_of image) (accepted (settings_of image) (calls records) []) 1

abbrev pub status : List ℕ → List (List ℕ) → ℕ → Status
status image records place = get_or (report image records).conditions place no_status

-- an event of alarm 1 that is not suppressed: time, condition, kind, severity
abbrev pub event : ℕ → ℕ → ℕ → ℕ → Event
event time condition kind severity =
    record { alarm = 1; condition = condition; kind = kind; suppressed = false; severity = severity; time = time }
