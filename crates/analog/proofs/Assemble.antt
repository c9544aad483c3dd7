-- The flags and the events of a stepped analog alarm, put together from words. Assumes nothing.
use mathlib.Core.Path.{◌≡◌, refl, ap, fun_ext}
use mathlib.Core.Bool.{Bool, false, not}
use mathlib.Core.List.{List, [], ◌∷◌}
use Prim.Native.Nat.{ℕ, ◌+◌, ◌*◌, ◌/◌, ◌%◌}
use lib.ListN.{take, drop, get_or}
use Rattle.wire.specs.Bits.{bit}
use Rattle.wire.specs.Internal.Words.{word_of, spread}
use Rattle.wire.proofs.WordLaws.{word-halves, word-join}
use Rattle.wire.proofs.MaskLaws.{bit-spread}
use Rattle.wire.specs.Internal.Places.{free_flags, free_events, condition_unit, condition_bit}
use Rattle.condition.specs.Internal.Outcome.{outcome_bits, ack_bits}
use Rattle.decision.specs.Internal.Cells.{cell, six, cells_of}
use native.Mathlib.Omega.{arith}
use Rattle.settings.specs.Numbers.{Numbers, AnalogOf}
use Rattle.settings.specs.declared.types.Reading.{Reading}
use Rattle.level.specs.Internal.Bits.{met_bits, frees_bits}
use Rattle.condition.specs.Internal.Mode.{mode_bits}
use Rattle.state.specs.Internal.State.{State}
use Rattle.state.specs.Internal.Held.{High, Low, AnalogHeld, Patterns, look_analog, analog_flags}
use Rattle.analog.specs.Internal.Analog.{run_start, analog_after, analog_events}
use Rattle.analog.specs.Internal.Packed.{ready_bits}

-- the words of the six are read bit by bit
cell-lists : (flags : ℕ) (enabled required : Bool) (met frees ready acks : List Bool) (k : ℕ)
    → cell flags enabled (word_of (spread met)) (word_of (spread frees)) (word_of (spread ready)) (word_of (spread acks)) required k
    ≡ outcome_bits
    (record {
      enabled = enabled;
      met = get_or met k false;
      frees = get_or frees k false;
      ready = get_or ready k false;
      ack = get_or acks k false;
      required = required;
    })
    (bit flags (condition_bit k 0)) (bit flags (condition_bit k 1))
cell-lists flags enabled required met frees ready acks k = rw (bit-spread met k, bit-spread frees k, bit-spread ready k, bit-spread acks k)

-- modes, the sample and the runs, and the conditions
flags-join : (d s f e h l : Bool) (cells : List Bool)
    → word_of (d ∷ s ∷ f ∷ []) + 8 * word_of (e ∷ h ∷ l ∷ []) + condition_unit * word_of cells ≡ word_of (d ∷ s ∷ f ∷ e ∷ h ∷ l ∷ free_flags cells)
unfolding word_of
flags-join d s f e h l cells = omega arith

module _ {X : Type 0} (n : Numbers X) (p : Patterns X) (a : AnalogOf X) (s : State) (x : Reading) (word time : ℕ) where
  abbrev pub after : AnalogHeld X
  after = analog_after n a x word time (look_analog p s)

  -- which would be due if they are met
  abbrev ready : List Bool
  ready =
      ready_bits s.flags (run_start n a x word time (look_analog p s) High) (run_start n a x word time (look_analog p s) Low) a.duration time

  -- the outcomes of the six, from the lists of bits
  abbrev pub outcomes : ℕ → List Bool
  outcomes k =
      outcome_bits
      (record {
        enabled = not after.disabled;
        met = get_or (met_bits n a (n.number x) after.sample.rate) k false;
        frees = get_or (frees_bits n a (n.number x)) k false;
        ready = get_or ready k false;
        ack = get_or (ack_bits word s.previous) k false;
        required = bit a.flags 4;
      })
      (bit s.flags (condition_bit k 0)) (bit s.flags (condition_bit k 1))

  pub cells_are : cells_of s.flags (not after.disabled) (word_of (spread (met_bits n a (n.number x) after.sample.rate)))
      (word_of (spread (frees_bits n a (n.number x))))
      (word_of (spread ready)) (word_of (spread (ack_bits word s.previous))) (bit a.flags 4)
      ≡ record { kept = word_of (six (take 3) outcomes); events = word_of (six (drop 3) outcomes) }
  unfolding cells_of
  cells_are =
      let e = fun_ext (cell-lists s.flags (not after.disabled) (bit a.flags 4) (met_bits n a (n.number x) after.sample.rate)
      (frees_bits n a (n.number x)) ready (ack_bits word s.previous)) in
      ap (λ (o : ℕ → List Bool). record { kept = word_of (six (take 3) o); events = word_of (six (drop 3) o) }) e

  pub analog-flags : {m r : ℕ} → m ≡ word_of (mode_bits (bit s.flags 0) (bit s.flags 1) word s.previous)
      → r ≡ word_of (after.held ∷ (after.run High).on ∷ (after.run Low).on ∷ [])
      → m % 8 + 8 * r + condition_unit * word_of (six (take 3) outcomes) ≡ word_of (analog_flags after)
  unfolding mode_bits ready_bits met_bits frees_bits ack_bits
  analog-flags e q = rw ((word-halves _ _ _ _ e).0, q) (flags-join _ _ _ _ _ _ (six (take 3) outcomes))

  pub analog-events : {m : ℕ} → m ≡ word_of (mode_bits (bit s.flags 0) (bit s.flags 1) word s.previous)
      → m / 8 + condition_unit * word_of (six (drop 3) outcomes) ≡ word_of (analog_events n a x word time (look_analog p s))
  unfolding mode_bits ready_bits met_bits frees_bits ack_bits
  analog-events e = word-join (_ ∷ _ ∷ _ ∷ _ ∷ _ ∷ free_events) (six (drop 3) outcomes) (word-halves _ _ _ _ e).1 refl
