-- `sweep::place::step_form` meets its contract: by the form, the part's size and the step on words that are cut out. Assumes nothing.
use mathlib.Core.Path.{ap, ◌∙◌}
use mathlib.Core.List.{List}
use Prim.Native.Nat.{ℕ}
use native.Mathlib.Omega.{arith}
use Rattle.state.specs.Internal.State.{Stepped, state_words}
use Rattle.sweep.specs.Internal.Sweep.{place_states}
use Rattle.sweep.proofs.Stepped.{digital-is, analog-is, state-cut-out, state-put}
use Rattle.sweep.proofs.place.step_form.Goals as goal

pub returns-in-Digital : goal.returns-in-Digital
unfolding place_states
returns-in-Digital c =
    let a = c.args in
    let s = a.scan.now in
    let states : List ℕ = a.states.now in
    let own = c.settings_in-settings.ensures in
    let at = c.state_at.ensures in
    let split = c.split_at_mut-behind.ensures in
    let state = state-cut-out s a.part states at split.front split.back c.in-Some.ensures.cases.same in
    let step = digital-is s a.part states own state c.get-word.ensures in
    let e = c.digital_step.ensures in
    record {
      value = rw c.in-Digital.is (e.value ∙ ap (λ (t : Stepped). t.events) step);
      states_after = rw c.in-Digital.is
          (state-put s a.part states at split.front split.back _ (omega arith) (e.state_after ∙ ap (λ (t : Stepped). state_words t.state) step));
    }

pub returns-in-Analog : goal.returns-in-Analog
unfolding place_states
returns-in-Analog c =
    let a = c.args in
    let s = a.scan.now in
    let states : List ℕ = a.states.now in
    let own = c.settings_in-settings.ensures in
    let at = c.state_at.ensures in
    let split = c.split_at_mut-behind.ensures in
    let state = state-cut-out s a.part states at split.front split.back c.in-Some.ensures.cases.same in
    let step = analog-is s a.part states own state c.get.ensures c.get-word-in-Analog.ensures in
    let e = c.analog_step.ensures in
    record {
      value = rw c.in-Analog.is (e.value ∙ ap (λ (t : Stepped). t.events) step);
      states_after = rw c.in-Analog.is
          (state-put s a.part states at split.front split.back _ (omega arith) (e.state_after ∙ ap (λ (t : Stepped). state_words t.state) step));
    }
