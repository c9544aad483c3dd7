-- `state::begin::begin_each`: the starts so far are stored. Assumes nothing.
use mathlib.Core.Path.{◌≡◌}
use lib.ListN.{take}
use Rattle.state.specs.Internal.Starts.{keep_starts}
use Rattle.state.proofs.begin.begin_each.Given as goal

abbrev pub invariant-loop-place : goal.invariant-loop-place
invariant-loop-place g l = l.starts ≡ keep_starts (take l.place l.row-items) l.time 0 l.initial.starts
