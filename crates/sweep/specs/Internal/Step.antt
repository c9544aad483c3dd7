-- One scan of one alarm, by its kind.
use Rattle.std.specs.Prelude.{ℕ}
use Rattle.settings.specs.Internal.Reals.{real_analog}
use Rattle.settings.specs.declared.types.Alarm.{Alarm}
use Rattle.settings.specs.declared.types.Kind.{Kind}
use Rattle.settings.specs.declared.types.Kind.TheVariants.{Digital, Analog}
use Rattle.settings.specs.declared.types.Reading.{Reading}
use Rattle.settings.specs.Numbers.{reals}
use Rattle.state.specs.Internal.Held.{real_patterns}
use Rattle.digital.specs.Internal.Digital.{digital_step}
use Rattle.analog.specs.Internal.Analog.{analog_step}
use Rattle.state.specs.Internal.State.{State, Stepped}

unfoldable pub step_kind : Kind → Alarm → State → Reading → ℕ → ℕ → Stepped
step_kind (Digital severity) a s x word time = digital_step a s x word time
step_kind (Analog limits severities period) a s x word time = analog_step reals real_patterns (real_analog a) s x word time

abbrev pub step_of : Alarm → State → Reading → ℕ → ℕ → Stepped
step_of a s x word time = step_kind a.kind a s x word time
