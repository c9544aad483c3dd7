-- What a report says of a whole alarm.
use Rattle.std.specs.Prelude.{ℕ, Bool, not, ◌||◌, Float}
use Rattle.settings.specs.Severity.{severity_invalid}
use Rattle.settings.specs.declared.types.Severities.{Severities}
use Rattle.settings.specs.declared.types.Kind.{Kind}
use Rattle.settings.specs.declared.types.Kind.TheVariants.{Digital, Analog}
use Rattle.settings.specs.declared.types.Alarm.{Alarm}
use Rattle.wire.specs.Real.{zero_real}
use Rattle.state.specs.Internal.Held.{High, Low, DigitalHeld, look_digital, AnalogHeld, real_patterns, look_analog}
use Rattle.state.specs.Internal.State.{State}
use Rattle.alarm_history.specs.Internal.After.{elapsed}
use Rattle.report.specs.declared.whole.Whole.{Whole}

-- SeverityInv of an analog alarm: any of its severities is out of range
unfoldable pub any_invalid : Severities → Bool
any_invalid s =
    (severity_invalid s.hh || severity_invalid s.h || severity_invalid s.l)
    || (severity_invalid s.ll || severity_invalid s.rocpos || severity_invalid s.rocneg)

-- a digital alarm that keeps d, when the last accepted scan was at `time`; its rate is 0
abbrev pub digital_whole : ℕ → ℕ → DigitalHeld → ℕ → Whole
digital_whole severity duration d time =
    record {
      enabled = not d.disabled;
      suppressed = d.suppressed;
      infaulted = d.faulted;
      severityinv = severity_invalid severity;
      rate = zero_real;
      high = elapsed duration d.cell.row d.cell.start time;
      low = 0;
    }

-- how a REAL rate is shown: as it is
abbrev pub shown_real : Float → Float
shown_real r = r

-- an analog alarm of any form of numbers, whose rate is shown as said, with the elapsed run of each side
abbrev pub analog_whole : {X : Type 0} → (X → Float) → Severities → ℕ → AnalogHeld X → ℕ → Whole
analog_whole shown severities duration a time =
    record {
      enabled = not a.disabled;
      suppressed = a.suppressed;
      infaulted = a.faulted;
      severityinv = any_invalid severities;
      rate = shown a.sample.rate;
      high = elapsed duration (a.run High).on (a.run High).start time;
      low = elapsed duration (a.run Low).on (a.run Low).start time;
    }

abbrev pub whole_kind : Kind → ℕ → State → ℕ → Whole
whole_kind (Digital severity) duration s time = digital_whole severity duration (look_digital s) time
whole_kind (Analog g severities period) duration s time = analog_whole shown_real severities duration (look_analog real_patterns s) time

unfoldable pub whole_of : Alarm → State → ℕ → Whole
whole_of a s time = whole_kind a.kind a.duration s time
