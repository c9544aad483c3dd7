-- `report::status::status_at` meets its contract. Assumes nothing.
use native.Mathlib.Nat.{div-one}
use Rattle.report.specs.Internal.Status.{status_at}
use Rattle.report.proofs.status.status_at.Goals as goal

pub returns : goal.returns
unfolding status_at
returns c = rw (c.is_set.ensures, c.is_set-2.ensures, div-one)
