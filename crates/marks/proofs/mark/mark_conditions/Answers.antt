-- `marks::mark::mark_conditions` meets its contract: the conditions before the next are marked, and those that are left to be marked are those
-- from it on. Assumes nothing.
use mathlib.Core.Bool.{Bool}
use mathlib.Core.Path.{refl, ap, ◌∙◌}
use Prim.Native.Nat.{◌+◌, ◌*◌, ◌-◌, ◌/◌, ◌^◌}
use native.Mathlib.Nat.{div-one}
use native.Mathlib.Omega.{arith}
use lib.ListN.{get_or}
use Rattle.std.specs.Int.{w32, trailing_zeros}
use Rattle.wire.specs.Internal.Places.{condition_unit}
use Rattle.marks.specs.Internal.Marks.{turn_by, mark_condition, mark_conditions}
use Rattle.marks.proofs.Parts.{condition-put}
use Rattle.marks.proofs.Left.{conditions-skipped, first-left}
use Rattle.marks.proofs.Still.{bit-none}
use Rattle.marks.proofs.Turns.{shift-more, conditions-next}
use Rattle.marks.proofs.mark.mark_conditions.Goals as goal

pub loop-left-init : goal.loop-left-init
unfolding mark_conditions
loop-left-init c = record {
  within = omega arith;
  left = c.choose-left.ensures ∙ rw (c.is_set-reset.ensures, div-one);
  marked = refl;
}

pub split_at_mut-behind-requires : goal.split_at_mut-behind-requires
split_at_mut-behind-requires c = omega (arith, first-left _ _ _ c.loop-left.invariant.left c.loop-left-test.true)

pub unreachable-requires : goal.unreachable-requires
unreachable-requires c = omega (arith, first-left _ _ _ c.loop-left.invariant.left c.loop-left-test.true, c.in_default.ensures.cases)

pub returns : goal.returns
returns c =
    let a = c.args in
    let l = c.loop-left in
    l.invariant.marked
    ∙ conditions-skipped a.required a.starts.now a.events a.time 1 l.next a.marks.now (6 - l.next) l.invariant.left (omega arith) (omega arith)
    (λ i _. rw c.loop-left-test.false (bit-none i))

pub loop-left-preserved : goal.loop-left-preserved
loop-left-preserved c =
    let a = c.args in
    let l = c.loop-left in
    let first = first-left _ _ _ l.invariant.left c.loop-left-test.true in
    let skipped = trailing_zeros w32 l.left / 3 in
    let place = l.next + skipped in
    let at = 1 + 4 * place in
    let rest = a.events / condition_unit / 2 ^ (3 * place) in
    let start = get_or a.starts.now place 0 in
    let split = c.split_at_mut-behind.ensures in
    let none = conditions-skipped a.required a.starts.now a.events a.time 1 l.next a.marks.now skipped l.invariant.left refl (omega arith) first.1 in
    record {
      within = omega arith;
      left = shift-more _ (3 * l.next) (3 * (skipped + 1)) (3 * (place + 1)) l.invariant.left (omega arith);
      marked = condition-put (turn_by c.is_set-reset.result rest a.required start a.time) l.marks at (omega arith) split.front split.back
          c.in-Some.ensures.cases.same c.mark_condition.ensures
          ∙ ap (λ (b : Bool). mark_condition (turn_by b rest a.required start a.time) at l.marks) c.is_set-reset.ensures
          ∙ conditions-next a.required a.starts.now a.events a.time 1 place a.marks.now (shift-more a.events 9 (3 * place) _ refl refl) refl
          (l.invariant.marked ∙ none);
    }
