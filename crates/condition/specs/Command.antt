-- What an alarm's command word commands. Bits 0, 1, 6 and 13 to 18 command only where the previous accepted scan had them clear; the others
-- act in every scan that sets them.
use Rattle.std.specs.Prelude.{ℕ, ◌+◌, Bool, not, ◌&&◌, ◌||◌, ltb}
use Rattle.wire.specs.Bits.{bit}
use Rattle.settings.specs.Condition.{Condition, number_of}

-- set, and clear in the previous word
abbrev pub rises : ℕ → ℕ → ℕ → Bool
rises word previous k = bit word k && not (bit previous k)

-- ProgEnable, OperEnable
abbrev pub enables : ℕ → Bool
enables word = bit word 3 || bit word 10

-- ProgDisable, OperDisable
abbrev pub disables : ℕ → Bool
disables word = bit word 2 || bit word 9

-- ProgSuppress, OperSuppress
abbrev pub suppresses : ℕ → Bool
suppresses word = bit word 4 || bit word 11

-- ProgUnsuppress, OperUnsuppress
abbrev pub unsuppresses : ℕ → Bool
unsuppresses word = bit word 5 || bit word 12

-- AlarmCountReset
abbrev pub count_resets : ℕ → ℕ → Bool
count_resets word previous = rises word previous 6

-- ProgReset, OperReset
abbrev pub resets : ℕ → ℕ → Bool
resets word previous = rises word previous 1 || bit word 8

-- ProgAck (ProgAckAll), OperAck (OperAckAll)
abbrev pub acks_all : ℕ → ℕ → Bool
acks_all word previous = rises word previous 0 || bit word 7

-- the word acknowledges the condition: all, or its own program bit, 13 for HH to 18 for ROCNeg, or operator bit, 19 to 24
unfoldable pub acks : ℕ → ℕ → Condition → Bool
acks word previous c =
    acks_all word previous || ltb 0 (number_of c) && rises word previous (12 + number_of c) || ltb 0 (number_of c) && bit word (18 + number_of c)

-- InFault
abbrev pub faults : ℕ → Bool
faults word = bit word 25
