-- When a condition is met, and what else clears it.
use Rattle.std.specs.Prelude.{ℕ, Bool, true, false, not, ◌&&◌, ◌||◌, ltb}
use Rattle.std.specs.Bool.{beq}
use Rattle.std.proofs.Math.Option.{Option, none, some}
use Rattle.wire.specs.Bits.{bit}
use Rattle.settings.specs.Condition.{Condition, In, HH, H, L, LL, ROCPos, ROCNeg, on}
use Rattle.settings.specs.Numbers.{Numbers, AnalogOf}
use Rattle.settings.specs.declared.types.Reading.{Reading}
use Rattle.settings.specs.declared.types.Reading.TheVariants.{Digital, Level}

-- ---- a digital alarm, by its flags: bit 0 Condition, 2 Latched

-- the reading is this digital bit
abbrev pub is_bit : Bool → Reading → Bool
is_bit condition (Digital input) = beq input condition
is_bit condition (Level x) = false

-- met: In equals Condition
abbrev pub bit_met : ℕ → Reading → Bool
bit_met flags x = is_bit (bit flags 0) x

-- what clears it where it is not met: a reset in this scan, or no latch
abbrev pub bit_frees : ℕ → Bool → Bool
bit_frees flags reset = not (bit flags 2) || reset

-- ---- an analog alarm, for any form of numbers

module _ {X : Type 0} (n : Numbers X) (a : AnalogOf X) where
  -- the reading is a number with p
  abbrev pub is_level : (X → Bool) → Option X → Bool
  is_level p none = false
  is_level p (some x) = p x

  -- a limit on the rate counts only where it and ROCPeriod exceed 0
  abbrev pub limited : X → Bool
  limited limit = n.below n.nought limit && ltb 0 a.period

  -- met by a reading and a rate: In >= limit of HH, H, In <= limit of L, LL, where the level is enabled; rate >= ROCPosLimit, rate <= -ROCNegLimit
  unfoldable pub met : Condition → Option X → X → Bool
  met In x rate = false
  met HH x rate = on a.flags HH && is_level (λ r. n.at_most (a.limit HH) r) x
  met H x rate = on a.flags H && is_level (λ r. n.at_most (a.limit H) r) x
  met L x rate = on a.flags L && is_level (λ r. n.at_most r (a.limit L)) x
  met LL x rate = on a.flags LL && is_level (λ r. n.at_most r (a.limit LL)) x
  met ROCPos x rate = limited (a.limit ROCPos) && n.at_most (a.limit ROCPos) rate
  met ROCNeg x rate = limited (a.limit ROCNeg) && n.at_most rate (n.opposite (a.limit ROCNeg))

  -- what clears it where it is not met: a reading past the Deadband, and of a rate nothing more
  unfoldable pub frees : Condition → Option X → Bool
  frees In x = false
  frees HH x = is_level (λ r. n.below r (n.minus (a.limit HH) a.deadband)) x
  frees H x = is_level (λ r. n.below r (n.minus (a.limit H) a.deadband)) x
  frees L x = is_level (λ r. n.below (n.plus (a.limit L) a.deadband) r) x
  frees LL x = is_level (λ r. n.below (n.plus (a.limit LL) a.deadband) r) x
  frees ROCPos x = true
  frees ROCNeg x = true
