-- `report::whole::whole_alarm` meets its contract: by the kind. Assumes nothing.
use Rattle.report.specs.Internal.Whole.{whole_of}
use Rattle.report.proofs.whole.whole_alarm.Goals as goal

pub returns-in-Digital : goal.returns-in-Digital
unfolding whole_of
returns-in-Digital c = rw c.in-Digital.is c.digital_whole.ensures

pub returns-in-Analog : goal.returns-in-Analog
unfolding whole_of
returns-in-Analog c = rw c.in-Analog.is c.analog_whole.ensures
