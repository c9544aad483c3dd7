-- `report::status::digital_statuses` meets its contract. Assumes nothing.
use Rattle.report.specs.Internal.Status.{digital_statuses}
use Rattle.report.proofs.status.digital_statuses.Goals as goal

pub returns : goal.returns
unfolding digital_statuses
returns c = rw (c.no_status-none.ensures, c.status_at-one.ensures)
