-- What a report says of the conditions of an alarm.
use Rattle.std.specs.Prelude.{ℕ, ◌+◌, not, List, [], ◌∷◌}
use Rattle.wire.specs.Bits.{bit}
use Rattle.wire.specs.Internal.Places.{from_condition}
use Rattle.settings.specs.declared.types.Kind.{Kind}
use Rattle.settings.specs.declared.types.Kind.TheVariants.{Digital, Analog}
use Rattle.marks.specs.Internal.Marks.{marks_at}
use Rattle.report.specs.Empty.{no_status}
use Rattle.report.specs.declared.status.Status.{Status}

-- in alarm, acknowledged, count and stamps: of the condition whose flags stand lowest in a digit, in alarm and unacknowledged, and whose words
-- begin at an offset
unfoldable pub status_at : List ℕ → ℕ → ℕ → Status
status_at marks at digit =
    record {
      alarm = bit digit 0;
      acked = not (bit digit 1);
      count = (marks_at marks at).count;
      alarmtime = (marks_at marks at).alarm;
      acktime = (marks_at marks at).ack;
      returntime = (marks_at marks at).return;
    }

-- the one condition of a digital alarm; an alarm's words begin with its count reset stamp
unfoldable pub digital_statuses : List ℕ → ℕ → ℕ → List Status
digital_statuses marks at flags = status_at marks (at + 1) (from_condition 0 flags) ∷ no_status ∷ no_status ∷ no_status ∷ no_status ∷ no_status ∷ []

-- HH, H, L, LL, ROCPos, ROCNeg of an analog alarm
unfoldable pub analog_statuses : List ℕ → ℕ → ℕ → List Status
analog_statuses marks at flags =
    status_at marks (at + 1) (from_condition 0 flags) ∷ status_at marks (at + 5) (from_condition 1 flags) ∷ status_at marks (at + 9) (from_condition 2 flags)
    ∷ status_at marks (at + 13) (from_condition 3 flags) ∷ status_at marks (at + 17) (from_condition 4 flags)
    ∷ status_at marks (at + 21) (from_condition 5 flags) ∷ []

abbrev pub statuses_of : Kind → List ℕ → ℕ → ℕ → List Status
statuses_of (Digital severity) marks at flags = digital_statuses marks at flags
statuses_of (Analog g s period) marks at flags = analog_statuses marks at flags
