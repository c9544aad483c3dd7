-- `report::whole::analog_whole` meets its contract. Assumes nothing.
use native.Mathlib.Nat.{div-one}
use Rattle.state.specs.Internal.State.{state_in}
use Rattle.report.proofs.whole.analog_whole.Goals as goal

pub returns : goal.returns
unfolding state_in
returns c =
    simp (
      c.elapsed_run-2.ensures,
      c.elapsed_run.ensures,
      c.upper_real.ensures,
      c.any_invalid.ensures,
      c.is_set.ensures,
      c.is_set-2.ensures,
      c.is_set-3.ensures,
      c.is_set-4.ensures,
      c.is_set-5.ensures,
      c.lower-flags.ensures,
      div-one,
    )
