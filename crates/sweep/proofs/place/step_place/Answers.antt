-- `sweep::place::step_place` meets its contract: what is stored is read back. Assumes nothing.
use mathlib.Core.Path.{refl, ap, ◌∙◌}
use mathlib.Core.List.{List}
use Prim.Native.Nat.{ℕ, ◌+◌}
use lib.ListN.{length}
use lib.Seq.{sets}
use Rattle.sweep.proofs.Stepped.{log_back, marks-back, states-length, marks-length}
use Rattle.sweep.proofs.place.step_place.Goals as goal

pub log_place-requires : goal.log_place-requires
log_place-requires c =
    let e = c.step_form-events.ensures in
    rw (log_back c.args.scan.now c.args.part c.args.kept.now.states.now c.args.kept.now.states_long e.states_after e.value) c.requires

pub invariant_of-kept : goal.invariant_of-kept
invariant_of-kept c =
    let a = c.args in
    let k = a.kept.now in
    record {
      states_long = ap length c.step_form-events.ensures.states_after ∙ states-length a.scan.now a.part k.states.now ∙ k.states_long;
      marks_long = ap length c.mark_place.ensures ∙ marks-length a.scan.now a.part _ c.step_form-events.result k.marks.now ∙ k.marks_long;
    }

pub returns : goal.returns
returns c =
    let a = c.args in
    let states : List ℕ = a.kept.now.states.now in
    let e = c.step_form-events.ensures in
    let l = c.log_place.ensures in
    let log = log_back a.scan.now a.part states a.kept.now.states_long e.states_after e.value in
    record {
      value = l.value ∙ ap (λ (bs : List ℕ). a.used + length bs) log;
      same = (refl, refl);
      states_after = e.states_after;
      marks_after = c.mark_place.ensures ∙ marks-back a.scan.now a.part states a.kept.now.states_long e.states_after e.value a.kept.now.marks.now;
      out_after = l.out_after ∙ ap (sets a.out.now a.used) log;
    }
