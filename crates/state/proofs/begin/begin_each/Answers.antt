-- `state::begin::begin_each` meets its contract: one more start is stored, or stays. Assumes nothing.
use mathlib.Core.Path.{◌≡◌, refl, sym, ◌∙◌, ap}
use mathlib.Core.Bool.{Bool, false}
use mathlib.Core.Logic.{inl, inr}
use Prim.Native.Nat.{◌<◌}
use native.Mathlib.Nat.{zero-add}
use native.Mathlib.Numerals.{add-one}
use native.Mathlib.Omega.{arith}
use lib.ListN.{get_or, length}
use Rattle.state.specs.Internal.Starts.{keep_start, keep_starts}
use Rattle.state.proofs.Starts.{next-start, start-kept}
use Rattle.state.proofs.begin.begin_each.Goals as goal
use Rattle.state.proofs.begin.begin_each.Goals.{then-row, else-row}

pub loop-place-init : goal.loop-place-init
unfolding keep_starts
loop-place-init g c = refl

pub loop-place-preserved : goal.loop-place-preserved
loop-place-preserved g c =
    let a = c.args in
    let l = c.loop-place in
    let b : Bool = get_or a.begins l.place false in
    let within : l.place < length a.begins = omega arith in
    let next = next-start a.begins l.place a.time 0 a.starts.now within in
    let kept : c.if-row.starts ≡ keep_start b a.time l.place l.starts =
    elim c.if-row.branch [
      | then-row w ↦ start-kept b a.time l.place (inl (w.if-row.true, w.starts-is))
      | else-row w ↦ start-kept b a.time l.place (inr (w.if-row.false, w.starts-is))
    ] in
    rw add-one (kept ∙ ap (keep_start b a.time l.place) l.invariant ∙ sym (rw zero-add at next))
