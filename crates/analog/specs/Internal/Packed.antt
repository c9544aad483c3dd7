-- Parts of a step on words, for the functions that work them out.
use Rattle.std.specs.Prelude.{ℕ, ◌+◌, ◌*◌, ◌-◌, ◌%◌, ◌≡◌, Bool, true, not, ◌&&◌, ◌||◌, cond, List, [], ◌∷◌, leb, eqb}
use Rattle.wire.specs.Bits.{bit}
use Rattle.wire.specs.Internal.Words.{word_of, spread}
use Rattle.wire.specs.Internal.Places.{high_flag, low_flag, condition_unit, condition_bit}
use Rattle.layout.specs.Internal.Words.{lower_of, upper_of}
use Rattle.condition.specs.Internal.Outcome.{ack_bits}
use Rattle.decision.specs.Internal.Cells.{cells_of}
use Rattle.decision.specs.declared.decide.Cells.{Cells}

-- ---- starts

-- which rows begin with a scan: HH, H, L, LL, ROCPos, ROCNeg
abbrev pub row_begins : ℕ → Bool → ℕ → ℕ → Bool
row_begins flags enabled met k = (enabled && bit met (3 * k)) && not (bit flags (condition_bit k 2))

-- the runs of the high and the low side, then those rows
abbrev pub all_begin : ℕ → Bool → ℕ → List Bool
all_begin flags enabled met =
    (enabled && (bit met 0 || bit met 3) && not (bit flags high_flag)) ∷ (enabled && (bit met 6 || bit met 9) && not (bit flags low_flag))
    ∷ row_begins flags enabled met 0 ∷ row_begins flags enabled met 1 ∷ row_begins flags enabled met 2 ∷ row_begins flags enabled met 3
    ∷ row_begins flags enabled met 4 ∷ row_begins flags enabled met 5 ∷ []

-- ---- the conditions

-- one of the conditions at two places was in alarm
abbrev pub in_alarm : ℕ → ℕ → ℕ → Bool
in_alarm flags c d = bit flags (condition_bit c 0) || bit flags (condition_bit d 0)

-- a level: its side's run has lasted, or its side had a condition in alarm; a rate always
unfoldable pub ready_bits : ℕ → ℕ → ℕ → ℕ → ℕ → List Bool
ready_bits flags high low duration time =
    (leb duration (time - high) || in_alarm flags 0 1) ∷ (leb duration (time - high) || in_alarm flags 0 1)
    ∷ (leb duration (time - low) || in_alarm flags 2 3) ∷ (leb duration (time - low) || in_alarm flags 2 3)
    ∷ true ∷ true ∷ []

-- when the runs began that a scan goes on with, or begins
abbrev pub ready_in : ℕ → ℕ → ℕ → ℕ → ℕ → ℕ
ready_in flags high low duration time =
    word_of (spread (ready_bits flags (cond (bit flags high_flag) high time) (cond (bit flags low_flag) low time) duration time))

-- the modes after a scan say that the alarm is enabled
abbrev pub enabled_in : ℕ → Bool
enabled_in modes = not (eqb (modes % 2) 1)

-- the six conditions
unfoldable pub decided : ℕ → ℕ → ℕ → ℕ → ℕ → ℕ → ℕ → Bool → ℕ → ℕ → Cells
decided first high low modes met frees duration required word time =
    cells_of (lower_of first) (enabled_in modes) met frees (ready_in (lower_of first) high low duration time)
    (word_of (spread (ack_bits word (upper_of first)))) required

-- two words of conditions that would be due decide the six alike
pub record SameReady (flags met ready other : ℕ) : Type 0 where
  pub alike : (enabled : Bool) (frees acks : ℕ) (required : Bool)
      → cells_of flags enabled met frees ready acks required ≡ cells_of flags enabled met frees other acks required

-- and two of conditions that would be cleared
pub record SameFrees (flags met frees other : ℕ) : Type 0 where
  pub alike : (enabled : Bool) (ready acks : ℕ) (required : Bool)
      → cells_of flags enabled met frees ready acks required ≡ cells_of flags enabled met other ready acks required

-- the flags after a scan
abbrev pub flags_after : ℕ → ℕ → Cells → ℕ
flags_after modes met six =
    modes % 8
    + 8 * word_of (enabled_in modes ∷ (enabled_in modes && (bit met 0 || bit met 3)) ∷ (enabled_in modes && (bit met 6 || bit met 9)) ∷ [])
    + condition_unit * six.kept
