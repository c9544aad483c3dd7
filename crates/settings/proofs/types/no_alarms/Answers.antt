-- `settings::types::no_alarms` meets its contract: no counts and blank places. Assumes nothing.
use Rattle.settings.specs.Alarm.{empty}
use Rattle.settings.proofs.types.no_alarms.Goals as goal

pub returns : goal.returns
unfolding empty
returns c = cc
