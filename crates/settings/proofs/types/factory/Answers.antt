-- `settings::types::factory` meets its contract: twelve places are written over, the others stay blank. Assumes nothing.
use mathlib.Core.Path.{refl}
use Rattle.settings.specs.Alarm.{blanks, factory}
use Rattle.settings.proofs.types.factory.Goals as goal

pub returns : goal.returns
unfolding blanks factory
returns c = rw (c.fill.ensures.after (λ y e. e), c.factory_alarm.ensures, c.blank_alarms-alarms.ensures) refl
