-- What is packed is read back. Assumes nothing.
use mathlib.Core.Path.{◌≡◌, fun_ext}
use Prim.Native.Nat.{ℕ}
use Rattle.wire.proofs.WordLaws.{bit_word}
use Rattle.wire.specs.Internal.Places.{condition_bit}
use Rattle.state.specs.Internal.State.{State}
use Rattle.state.specs.Internal.Held.{DigitalHeld, look_digital, digital_flags, hide_digital, Six, HH, H, L, LL, ROCPos, ROCNeg, Side, High, Low, AnalogHeld}
use Rattle.state.specs.Internal.Held.{run_of, cell_of, Patterns, look_analog, analog_flags, hide_analog}

pub look-digital : (s : State) (d : DigitalHeld) → look_digital (hide_digital s d) ≡ d
look-digital s d =
    rw (
      bit_word (digital_flags d) 0,
      bit_word (digital_flags d) 1,
      bit_word (digital_flags d) 2,
      bit_word (digital_flags d) (condition_bit 0 0),
      bit_word (digital_flags d) (condition_bit 0 1),
      bit_word (digital_flags d) (condition_bit 0 2),
    )

run-back : {X : Type 0} (a : AnalogHeld X) (p q : ℕ) (s : Side) → run_of (hide_analog a p q) s ≡ a.run s
run-back a p q High = rw (bit_word (analog_flags a) 4)
run-back a p q Low = rw (bit_word (analog_flags a) 5)

cell-back : {X : Type 0} (a : AnalogHeld X) (p q : ℕ) (c : Six) → cell_of (hide_analog a p q) c ≡ a.cell c
cell-back a p q HH =
    rw (bit_word (analog_flags a) (condition_bit 0 0), bit_word (analog_flags a) (condition_bit 0 1), bit_word (analog_flags a) (condition_bit 0 2))
cell-back a p q H =
    rw (bit_word (analog_flags a) (condition_bit 1 0), bit_word (analog_flags a) (condition_bit 1 1), bit_word (analog_flags a) (condition_bit 1 2))
cell-back a p q L =
    rw (bit_word (analog_flags a) (condition_bit 2 0), bit_word (analog_flags a) (condition_bit 2 1), bit_word (analog_flags a) (condition_bit 2 2))
cell-back a p q LL =
    rw (bit_word (analog_flags a) (condition_bit 3 0), bit_word (analog_flags a) (condition_bit 3 1), bit_word (analog_flags a) (condition_bit 3 2))
cell-back a p q ROCPos =
    rw (
      bit_word (analog_flags a) (condition_bit 4 0),
      bit_word (analog_flags a) (condition_bit 4 1),
      bit_word (analog_flags a)
          (condition_bit 4 2),
    )
cell-back a p q ROCNeg =
    rw (
      bit_word (analog_flags a) (condition_bit 5 0),
      bit_word (analog_flags a) (condition_bit 5 1),
      bit_word (analog_flags a)
          (condition_bit 5 2),
    )

pub look-packed : {X : Type 0} (v : Patterns X) (a : AnalogHeld X) (p q : ℕ) → v.value p ≡ a.sample.value → v.value q ≡ a.sample.rate
    → look_analog v (hide_analog a p q) ≡ a
look-packed v a p q value rate =
    rw (
      bit_word (analog_flags a) 0,
      bit_word (analog_flags a) 1,
      bit_word (analog_flags a) 2,
      bit_word (analog_flags a) 3,
      fun_ext (run-back a p q),
      fun_ext (cell-back a p q),
      value,
      rate,
    )
