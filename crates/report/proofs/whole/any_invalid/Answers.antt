-- `report::whole::any_invalid` meets its contract. Assumes nothing.
use Rattle.report.specs.Internal.Whole.{any_invalid}
use Rattle.report.proofs.whole.any_invalid.Goals as goal

pub returns : goal.returns
unfolding any_invalid
returns c =
    rw (
      c.is_invalid.ensures,
      c.is_invalid-2.ensures,
      c.is_invalid-3.ensures,
      c.is_invalid-4.ensures,
      c.is_invalid-5.ensures,
      c.is_invalid-6.ensures,
    )
