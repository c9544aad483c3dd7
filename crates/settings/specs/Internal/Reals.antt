-- What an alarm's kind says of REALs.
use Rattle.std.specs.Prelude.{ℕ, Float}
use Rattle.wire.specs.Real.{zero_real}
use Rattle.settings.specs.Numbers.{AnalogOf, analog_reals}
use Rattle.settings.specs.declared.types.Alarm.{Alarm}
use Rattle.settings.specs.declared.types.Limits.{Limits}
use Rattle.settings.specs.declared.types.Kind.{Kind}
use Rattle.settings.specs.declared.types.Kind.TheVariants.{Digital, Analog}

-- the REALs of an analog alarm and its ROCPeriod; a digital alarm has none, and they count as 0
abbrev pub limits_of : Kind → Limits
limits_of (Digital severity) =
    record { hh = zero_real; h = zero_real; l = zero_real; ll = zero_real; deadband = zero_real; rocpos = zero_real; rocneg = zero_real }
limits_of (Analog limits severities period) = limits

abbrev pub period_of : Kind → ℕ
period_of (Digital severity) = 0
period_of (Analog limits severities period) = period

abbrev pub real_analog : Alarm → AnalogOf Float
real_analog a = analog_reals a.flags a.duration (limits_of a.kind) (period_of a.kind)
