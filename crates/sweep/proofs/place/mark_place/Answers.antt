-- `sweep::place::mark_place` meets its contract: without events nothing is marked; otherwise words that are cut out. Assumes nothing.
use mathlib.Core.Path.{◌≡◌, sym, ap, ◌∙◌}
use mathlib.Core.List.{List}
use Prim.Native.Nat.{ℕ, ◌-◌, ◌*◌}
use native.Mathlib.Omega.{arith}
use lib.ListN.{length, take, drop}
use Rattle.settings.specs.Alarm.{ack_required}
use Rattle.layout.specs.Internal.Words.{alarm_in}
use Rattle.layout.specs.Internal.Block.{alarm_at, state_at}
use Rattle.state.specs.Internal.State.{starts_of, state_in}
use Rattle.marks.proofs.Still.{alarm-still}
use Rattle.marks.proofs.Parts.{alarm-put}
use Rattle.sweep.specs.Internal.Sweep.{state_marks}
use Rattle.sweep.proofs.Stepped.{marks-same}
use Rattle.sweep.proofs.place.mark_place.Goals as goal

pub returns-then-events-eq0 : goal.returns-then-events-eq0
unfolding state_marks
returns-then-events-eq0 c =
    let a = c.args in
    let s = a.scan.now in
    let p = a.part.place.index in
    let alarm = alarm_in a.part.form s.settings.now (alarm_at p) in
    sym (alarm-still (ack_required alarm.kind alarm.flags) (starts_of (state_in a.states.now (state_at p))) s.time (25 * p) a.marks.now c.if-events-eq0.true)

pub returns : goal.returns
returns c =
    let a = c.args in
    let s = a.scan.now in
    let states : List ℕ = a.states.now in
    let at = c.mark_at.ensures in
    let split = c.split_at_mut-behind.ensures in
    let five : length c.state_in.result.now - 6 ≡ 5 = omega arith in
    let starts = c.in-Some.ensures.cases.1.same ∙ ap (λ (k : ℕ). drop k c.state_in.result.now) five in
    alarm-put c.required_in-required.result c.in-Some.starts.now a.events s.time a.marks.now (25 * a.part.place.index) (omega arith)
    (split.front ∙ ap (λ (k : ℕ). take k a.marks.now) at) (split.back ∙ ap (λ (k : ℕ). drop k a.marks.now) at)
    c.in-Some-first_chunk_mut.ensures.cases.same c.mark_alarm.ensures
    ∙ marks-same s a.part states c.settings_in.ensures c.state_in.ensures a.events c.required_in-required.ensures starts (omega arith) a.marks.now
