-- `analog::step::analog_step` meets its contract. Assumes nothing.
use borrow.Author.Tests.{eqb-true}
use mathlib.Core.Path.{ap, ◌∙◌}
use mathlib.Core.Bool.{Bool}
use mathlib.Core.List.{List, [], ◌∷◌}
use Prim.Native.Nat.{ℕ}
use native.Mathlib.Omega.{arith}
use lib.ListN.{get_or}
use lib.Seq.{sets}
use lib.Ieee.{Float}
use Rattle.settings.specs.Internal.Reals.{real_analog}
use Rattle.wire.specs.Bits.{bit}
use Rattle.wire.specs.Internal.Words.{word_of, spread}
use Rattle.wire.proofs.Laws.{and-true}
use Rattle.settings.specs.Numbers.{AnalogOf, real_of, reals, analog_reals}
use Rattle.settings.specs.declared.types.Alarm.{Alarm}
use Rattle.settings.specs.declared.types.Form.TheVariants.{Analog}
use Rattle.settings.specs.declared.types.Reading.{Reading}
use Rattle.layout.specs.Internal.Words.{pair_of, alarm_in}
use Rattle.level.specs.Internal.Bits.{frees_bits}
use Rattle.state.specs.Internal.State.{state_in}
use Rattle.state.proofs.Back.{words-whole}
use Rattle.analog.proofs.Words.{beside-sample}
use Rattle.analog.proofs.Sensed.{sensed}
use Rattle.analog.proofs.Steps.{frees-sees, none-met, events-are, flags-are, analog-done, rest-done}
use Rattle.analog.proofs.step.analog_step.Goals as goal

pub returns-then-word-first : goal.returns-then-word-first
unfolding alarm_in state_in
returns-then-word-first c =
    let g = c.args in
    let ws : List ℕ = g.state.now in
    let alarm : Alarm = alarm_in Analog g.settings.now 0 in
    let a : AnalogOf Float = real_analog alarm in
    let x : Reading = g.reading in
    let low = c.lower-flags.ensures in
    let set = c.flags_in-set.ensures in
    let limits = c.limits_in-limits.ensures in
    let sample = c.resample-sample.ensures in
    let seen =
    sensed alarm ws 0 x g.word g.time low c.upper-previous.ensures c.modes-m.ensures.0 c.is_enabled-enabled.ensures c.period_in-period.ensures
    c.value_of.ensures sample.rate (λ i. sets ws 1 (sample.pair i ∷ sample.time i ∷ [])) c.upper_real.ensures set limits c.met_word-met.ensures.0
    in
    let rests = and-true _ _ c.if-word-first.true in
    let still = and-true _ _ rests.0 in
    let unmet = none-met a x _ seen.met-is (eqb-true _ _ rests.1) in
    let both = rest-done a ws 0 x g.word g.time seen.enabled (eqb-true _ _ still.0) (eqb-true _ _ still.1) unmet seen.sampled in
    record { value = both.0; state_after = both.1 ∙ words-whole ws _ (omega arith) }

pub returns : goal.returns
unfolding alarm_in state_in
returns c =
    let g = c.args in
    let ws : List ℕ = g.state.now in
    let alarm : Alarm = alarm_in Analog g.settings.now 0 in
    let a : AnalogOf Float = real_analog alarm in
    let x : Reading = g.reading in
    let low = c.lower-flags.ensures in
    let set = c.flags_in-set.ensures in
    let limits = c.limits_in-limits.ensures in
    let sample = c.resample-sample.ensures in
    let seen =
    sensed alarm ws 0 x g.word g.time low c.upper-previous.ensures c.modes-m.ensures.0 c.is_enabled-enabled.ensures c.period_in-period.ensures
    c.value_of.ensures sample.rate (λ i. sets ws 1 (sample.pair i ∷ sample.time i ∷ [])) c.upper_real.ensures set limits c.met_word-met.ensures.0
    in
    let f = ap (λ (l : List ℕ). get_or l 0 0) seen.sampled ∙ (beside-sample ws 0 _ _).0 in
    let h = ap (λ (l : List ℕ). get_or l 3 0) seen.sampled ∙ (beside-sample ws 0 _ _).1 in
    let l = ap (λ (l : List ℕ). get_or l 4 0) seen.sampled ∙ (beside-sample ws 0 _ _).2 in
    let need = c.is_set.ensures ∙ ap (λ (v : ℕ). bit v 4) (c.from.ensures ∙ set) in
    let asked = c.frees_in.ensures in
    let lasts = c.duration_in.ensures in
    let frees =
    (λ i. word_of (spread (frees_bits reals (analog_reals 0 0 (limits i) 0) (real_of x))))
    ∙ ap (λ (bs : List Bool). word_of (spread bs)) (frees-sees alarm x)
    in
    let events = events-are a ws 0 x g.word g.time seen.modes-are seen.met-is asked low frees lasts need f h l in
    let flags = flags-are a ws 0 x g.word g.time seen.modes-are seen.met-is asked low frees lasts need f h l in
    let done = c.finish.ensures in
    record {
      value = done.value ∙ events;
      state_after = analog-done a ws 0 x g.word g.time seen.enabled seen.met-is (ap (λ (v : ℕ). pair_of v g.word) flags) seen.sampled f done.state_after
          ∙ words-whole ws _ (omega arith);
    }
