-- What the head of an analog step works out, before it tells a resting alarm from another. Assumes nothing.
use mathlib.Core.Path.{◌≡◌, ap, ◌∙◌}
use mathlib.Core.Bool.{Bool}
use mathlib.Core.List.{List, [], ◌∷◌}
use Prim.Native.Nat.{ℕ, ◌+◌}
use native.Mathlib.Omega.{arith}
use lib.ListN.{get_or}
use lib.Seq.{sets}
use lib.Ieee.{Float, binary32, of_bits}
use Rattle.wire.specs.Bits.{bit}
use Rattle.wire.specs.Internal.Words.{word_of, spread}
use Rattle.settings.specs.Internal.Reals.{real_analog, limits_of}
use Rattle.settings.specs.Numbers.{AnalogOf, real_of, value_of, reals, analog_reals}
use Rattle.settings.specs.declared.types.Alarm.{Alarm}
use Rattle.settings.specs.declared.types.Limits.{Limits}
use Rattle.settings.specs.declared.types.Reading.{Reading}
use Rattle.level.specs.Internal.Bits.{met_bits}
use Rattle.condition.specs.Internal.Mode.{mode_bits}
use Rattle.state.specs.Internal.State.{State, state_in}
use Rattle.state.specs.Internal.Held.{real_patterns, look_analog}
use Rattle.sample.specs.Internal.Sample.{rate_in, sample_in, sampled_in}
use Rattle.analog.specs.Internal.Analog.{analog_enabled}
use Rattle.analog.specs.Internal.Packed.{enabled_in}
use Rattle.analog.proofs.Assemble.{after}
use Rattle.analog.proofs.Steps.{met-sees, rate-pattern-is, rate-real, enabled-is}

module _ (alarm : Alarm) (ws : List ℕ) (at : ℕ) (x : Reading) (word time : ℕ) where
  abbrev pub a : AnalogOf Float
  a = real_analog alarm

  abbrev pub s : State
  s = state_in ws at

  -- the words of sample, rate and time after the scan
  abbrev pub resampled : ℕ → Bool → ℕ → ℕ → ℕ → Float → List ℕ
  resampled flags on period first second value =
      sample_in flags on period first second value time ∷ sampled_in flags period second time ∷ []

  -- of the modes, the words with the new sample and the conditions that are met
  pub record Sensed (modes met : ℕ) (stored : List ℕ) : Type 0 where
    pub modes-are : modes ≡ word_of (mode_bits (bit s.flags 0) (bit s.flags 1) word s.previous)
    pub enabled : enabled_in modes ≡ analog_enabled reals a x word time (look_analog real_patterns s)
    pub sampled : stored
        ≡ sets ws (at + 1) (resampled s.flags (enabled_in modes) a.period (get_or ws (at + 1) 0) (get_or ws (at + 2) 0) (value_of reals (real_of x)))
    pub met-is : met ≡ word_of (spread (met_bits reals a (real_of x) (after reals real_patterns a s x word time).sample.rate))

  pub sensed : {flags previous modes period rate set met : ℕ} {on : Bool} {value real : Float} {limits : Limits} {stored : List ℕ}
      → flags ≡ s.flags → previous ≡ s.previous → modes ≡ word_of (mode_bits (bit flags 0) (bit flags 1) word previous)
      → on ≡ enabled_in modes → period ≡ a.period → value ≡ value_of reals (real_of x)
      → rate ≡ rate_in flags on period (get_or ws (at + 1) 0) (get_or ws (at + 1 + 1) 0) value time
      → stored ≡ sets ws (at + 1) (resampled flags on period (get_or ws (at + 1) 0) (get_or ws (at + 1 + 1) 0) value)
      → real ≡ of_bits binary32 rate → set ≡ alarm.flags → limits ≡ limits_of alarm.kind
      → met ≡ word_of (spread (met_bits reals (analog_reals set 0 limits period) (real_of x) real)) → Sensed modes met stored
  sensed {modes = modes} low up m on per value rate stored real set limits met =
      let two : at + 1 + 1 ≡ at + 2 = omega arith in
      let first = get_or ws (at + 1) 0 in
      let modes-are : modes ≡ word_of (mode_bits (bit s.flags 0) (bit s.flags 1) word s.previous) =
      m ∙ (λ i. word_of (mode_bits (bit (low i) 0) (bit (low i) 1) word (up i)))
      in
      let e = enabled-is a s x word time modes-are in
      let rate-is =
      rate ∙ (λ i. rate_in (low i) (on i) (per i) first (get_or ws (two i) 0) (value i) time) ∙ rate-pattern-is a ws at x word time e
      in
      let real-is = real ∙ ap (of_bits binary32) rate-is ∙ rate-real a ws at x word time e in
      record {
        modes-are = modes-are;
        enabled = e;
        sampled = stored ∙ (λ i. sets ws (at + 1) (resampled (low i) (on i) (per i) first (get_or ws (two i) 0) (value i)));
        met-is = met ∙ (λ i. word_of (spread (met_bits reals (analog_reals (set i) 0 (limits i) (per i)) (real_of x) (real-is i))))
            ∙ ap (λ (bs : List Bool). word_of (spread bs)) (met-sees alarm x _);
      }
