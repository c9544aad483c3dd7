-- `report::status::statuses` meets its contract: by the kind. Assumes nothing.
use Rattle.report.proofs.status.statuses.Goals as goal

pub returns-in-Digital : goal.returns-in-Digital
returns-in-Digital c = rw c.in-Digital.is c.digital_statuses.ensures

pub returns-in-Analog : goal.returns-in-Analog
returns-in-Analog c = rw c.in-Analog.is c.analog_statuses.ensures
