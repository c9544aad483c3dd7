-- `report::status::no_statuses` meets its contract. Assumes nothing.
use Rattle.report.specs.Empty.{no_statuses}
use Rattle.report.proofs.status.no_statuses.Goals as goal

pub returns : goal.returns
unfolding no_statuses
returns c = rw c.no_status-none.ensures
