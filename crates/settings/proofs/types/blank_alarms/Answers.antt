-- `settings::types::blank_alarms` meets its contract: 24 places, each blank. Assumes nothing.
use Rattle.settings.specs.Alarm.{blanks}
use Rattle.settings.proofs.types.blank_alarms.Goals as goal

pub returns : goal.returns
unfolding blanks
returns c = simp c.blank_alarm-alarm.ensures
