-- Forms of numbers: what the rules of an analog alarm ask of its limits and readings. REALs are one form; each of their operations rounds once.
use Rattle.std.specs.Prelude.{ℕ, min, Bool, cond, [], ◌∷◌, eqb, get_or, pos, Float}
use Rattle.std.proofs.Math.Option.{Option, none, some}
use Rattle.std.specs.Float.{binary32}
use Rattle.std.specs.Float.Ieee.{of_bits, of_int, lt, le, neg, add, sub, mul, div}
use Rattle.wire.specs.Real.{zero_real, bounded}
use Rattle.settings.specs.Condition.{Condition, number_of}
use Rattle.settings.specs.declared.types.Limits.{Limits}
use Rattle.settings.specs.declared.types.Reading.{Reading}
use Rattle.settings.specs.declared.types.Reading.TheVariants.{Digital, Level}

pub record Numbers (X : Type 0) : Type 0 where
  -- the number that a decoded reading is; a digital bit is none
  pub number : Reading → Option X
  -- within the range of settings and readings
  pub inside : X → Bool
  pub nought : X
  pub below : X → X → Bool
  pub at_most : X → X → Bool
  pub plus : X → X → X
  pub minus : X → X → X
  pub opposite : X → X
  -- a new sample's rate, by ROCPeriod in ms, the stored sample and the reading
  pub rated : ℕ → X → X → X

-- the number that a sample stores; a reading that is none counts as 0
abbrev pub value_of : {X : Type 0} → Numbers X → Option X → X
value_of n none = n.nought
value_of n (some x) = x

-- what the scans of an analog alarm look at in its settings
pub record AnalogOf (X : Type 0) : Type 0 where
  pub flags : ℕ
  pub duration : ℕ
  pub period : ℕ
  pub deadband : X
  -- of a level, or of a rate
  pub limit : Condition → X

-- ---- REALs

abbrev pub thousand : Float
thousand = of_bits binary32 0x447A0000

-- ROCPeriod as a REAL, without loss. (Beyond 2 ^ 24, which no accepted settings have, it counts as that)
abbrev pub period_real : ℕ → Float
period_real period = of_int binary32 (pos (min period 16777216))

-- the difference from the stored sample, times 1000, over the period, each operation rounded once; 0 for period 0
unfoldable pub new_rate : ℕ → Float → Float → Float
new_rate period stored x = cond (eqb period 0) zero_real (div binary32 (mul binary32 (sub binary32 x stored) thousand) (period_real period))

abbrev pub real_of : Reading → Option Float
real_of (Digital input) = none
real_of (Level x) = some x

abbrev pub reals : Numbers Float
reals =
    record { number = real_of; inside = bounded; nought = zero_real; below = lt; at_most = le; plus = add binary32; minus = sub binary32; opposite = neg; rated = new_rate }

abbrev pub real_limit : Limits → Condition → Float
real_limit g c = get_or (zero_real ∷ g.hh ∷ g.h ∷ g.l ∷ g.ll ∷ g.rocpos ∷ g.rocneg ∷ []) (number_of c) zero_real

abbrev pub analog_reals : ℕ → ℕ → Limits → ℕ → AnalogOf Float
analog_reals flags duration g period = record { flags = flags; duration = duration; period = period; deadband = g.deadband; limit = real_limit g }
