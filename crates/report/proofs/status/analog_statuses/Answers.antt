-- `report::status::analog_statuses` meets its contract. Assumes nothing.
use Rattle.report.specs.Internal.Status.{analog_statuses}
use Rattle.report.proofs.status.analog_statuses.Goals as goal

pub returns : goal.returns
unfolding analog_statuses
returns c =
    rw (
      c.status_at-hh.ensures,
      c.status_at-h.ensures,
      c.status_at-l.ensures,
      c.status_at-ll.ensures,
      c.status_at-rocpos.ensures,
      c.status_at-rocneg.ensures,
    )
