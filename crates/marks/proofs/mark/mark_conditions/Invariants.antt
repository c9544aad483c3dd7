-- `marks::mark::mark_conditions` meets its contract: the invariant: the conditions before the next are marked, and those that are left to be
-- marked are those from it on. Assumes nothing.
use mathlib.Core.Path.{◌≡◌}
use Prim.Native.Nat.{◌*◌, ◌-◌, ◌/◌, ◌^◌, ◌≤◌}
use Rattle.wire.specs.Bits.{bit}
use Rattle.marks.specs.Internal.Marks.{mark_conditions}
use Rattle.marks.proofs.Left.{to_mark}
use Rattle.marks.proofs.mark.mark_conditions.Given as goal

abbrev pub invariant-loop-left : goal.invariant-loop-left
invariant-loop-left l =
    record {
      within : l.next ≤ 6;
      left : l.left ≡ to_mark (bit l.events 4) l.events / 2 ^ (3 * l.next);
      marked : l.marks ≡ mark_conditions l.required l.starts l.events l.time 1 l.next l.initial.marks;
    }

abbrev pub decreases-loop-left : goal.decreases-loop-left
decreases-loop-left l = 6 - l.next
