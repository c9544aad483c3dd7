-- `digital::step::digital_step` meets its contract. Assumes nothing.
use borrow.Author.Tests.{eqb-true}
use mathlib.Core.Path.{◌≡◌, refl, sym, ap, ◌∙◌}
use mathlib.Core.Bool.{Bool, not, ◌&&◌, ◌||◌, cond}
use mathlib.Core.List.{List}
use Prim.Native.Nat.{ℕ, ◌-◌}
use native.Mathlib.Omega.{arith}
use lib.Dec.{leb}
use Rattle.wire.specs.Bits.{bit}
use Rattle.wire.specs.Internal.Words.{word_of}
use Rattle.wire.proofs.Laws.{and-true}
use Rattle.wire.proofs.WordLaws.{bit-shift, word_low}
use Rattle.wire.specs.Internal.Places.{first_condition, condition_bit, from_condition}
use Rattle.settings.specs.declared.types.Alarm.{Alarm}
use Rattle.settings.specs.declared.types.Form.TheVariants.{Digital as DigitalForm}
use Rattle.settings.specs.declared.types.Reading.{Reading}
use Rattle.layout.specs.Internal.Words.{pair_of, alarm_in}
use Rattle.condition.specs.Command.{resets, acks_all}
use Rattle.condition.specs.Internal.Mode.{mode_bits}
use Rattle.condition.specs.Internal.Outcome.{outcome_bits}
use Rattle.level.specs.Level.{is_bit}
use Rattle.state.specs.Internal.State.{State, state_in}
use Rattle.state.specs.Internal.Held.{look_digital}
use Rattle.digital.specs.Internal.Digital.{digital_told, digital_after, digital_step}
use Rattle.state.proofs.Back.{words-whole}
use Rattle.digital.proofs.Steps.{digital-flags, digital-events}
use Rattle.digital.proofs.Steps.{digital-done, digital-rest-done}
use Rattle.digital.proofs.step.digital_step.Goals as goal

pub returns-then-word-rests : goal.returns-then-word-rests
unfolding alarm_in
returns-then-word-rests c =
    let g = c.args in
    let a : Alarm = alarm_in DigitalForm g.settings.now 0 in
    let watched = c.is_set.ensures ∙ ap (λ (v : ℕ). bit v 0) (c.from-set.ensures ∙ c.flags_in.ensures) in
    let met' = c.is_bit-met.ensures ∙ ap (λ (b : Bool). is_bit b g.reading) watched in
    let rests = and-true _ _ c.if-word-rests.true in
    let both = digital-rest-done a g.state.now 0 g.reading g.word g.time met' (eqb-true _ _ rests.0)
    (eqb-true _ _ (sym c.rests.ensures ∙ rests.1)) in
    record { value = both.0; state_after = both.1 ∙ words-whole g.state.now _ (omega arith) }

pub returns : goal.returns
unfolding mode_bits digital_step alarm_in state_in
returns c =
    let g = c.args in
    let ws : List ℕ = g.state.now in
    let a : Alarm = alarm_in DigitalForm g.settings.now 0 in
    let s : State = state_in ws 0 in
    let x : Reading = g.reading in
    let low = c.lower-flags.ensures in
    let up = c.upper-previous.ensures in
    let set = c.from-set.ensures ∙ c.flags_in.ensures in
    let m : c.modes-m.result
    ≡ word_of (mode_bits (bit s.flags 0) (bit s.flags 1) g.word s.previous) =
    c.modes-m.ensures.0
    ∙ (λ i. word_of (mode_bits (bit (low i) 0) (bit (low i) 1) g.word (up i)))
    in
    let enabled = c.is_enabled-enabled.ensures ∙ ap not (word_low _ _ m) in
    let watched = c.is_set.ensures ∙ ap (λ (v : ℕ). bit v 0) set in
    let latched = c.is_set-2.ensures ∙ ap (λ (v : ℕ). bit v 2) set in
    let required = c.is_set-3.ensures ∙ ap (λ (v : ℕ). bit v 1) set in
    let on = c.is_set-on.ensures ∙ ap (λ (f : ℕ). bit f (condition_bit 0 2)) low in
    let met' = c.is_bit-met.ensures ∙ ap (λ (b : Bool). is_bit b x) watched in
    let reset = c.resets.ensures ∙ ap (resets g.word) up in
    let ready =
    c.row_lasted-ready.ensures
    ∙ (λ i. leb (c.duration_in.ensures i) (g.time - cond (on i) s.hh g.time)) in
    let ack = c.acks_all-ack.ensures ∙ ap (acks_all g.word) up in
    let alarm = ap (λ (f : ℕ). bit (from_condition 0 f) 0) low ∙ bit-shift s.flags first_condition 0 in
    let unacked = ap (λ (f : ℕ). bit (from_condition 0 f) 1) low ∙ bit-shift s.flags first_condition 1 in
    let outcome : c.condition-c.result
    ≡ word_of (outcome_bits (digital_told a x g.word g.time (look_digital s)) (bit s.flags (condition_bit 0 0)) (bit s.flags (condition_bit 0 1))) =
    c.condition-c.ensures.0
    ∙ (λ i.
    word_of (outcome_bits (record {
      enabled = enabled i;
      met = met' i;
      frees = not (latched i) || reset i;
      ready = ready i;
      ack = ack i;
      required = required i;
    }) (alarm i) (unacked i)))
    in
    let flags = digital-flags a s x g.word g.time m outcome in
    let events = digital-events a s x g.word g.time m outcome in
    let first = c.pair-kept.ensures.0 ∙ ap (λ (f : ℕ). pair_of f g.word) flags in
    record {
      value = events;
      state_after = c.keep.ensures ∙ digital-done ws 0 (digital_after a x g.word g.time (look_digital s)) refl
          (λ i. cond ((enabled i && met' i) && not (on i)) g.time s.hh) first
          ∙ words-whole ws _ (omega arith);
    }
