-- The definitions, run on the document's scenarios: a high level (K8), a low level (K9), a rate (K11). Assumes nothing.
use mathlib.Core.Path.{◌≡◌, refl}
use mathlib.Core.Bool.{Bool, true, false}
use mathlib.Core.List.{List, [], ◌∷◌}
use mathlib.Core.Option as O
use mathlib.Core.Option.{Option, some}
use Prim.Native.Nat.{ℕ}
use lib.Ieee.{Float, binary32, of_bits, of_int, lt, le, neg, add, sub, mul, div}
use Rattle.wire.specs.Real.{zero_real}
use Rattle.settings.specs.Condition.{H, L}
use Rattle.settings.specs.Numbers.{AnalogOf, reals, new_rate, analog_reals}
use Rattle.settings.specs.declared.types.Limits.{Limits}
use Rattle.level.specs.Level.{met, frees}
use Rattle.level.specs.Internal.Bits.{met_bits}
use Rattle.level.specs.Internal.Sample.{Sample, sample_after}

abbrev real : ℕ → Float
real pattern = of_bits binary32 pattern

-- H 800, L 600, Deadband 20, both rate limits 5
abbrev limits : Limits
limits =
    record {
      hh = zero_real;
      h = real 0x44480000;
      l = real 0x44160000;
      ll = zero_real;
      deadband = real 0x41A00000;
      rocpos = real 0x40A00000;
      rocneg = real 0x40A00000;
    }

-- H and L enabled, or no level; with a ROCPeriod
abbrev both : AnalogOf Float
both = analog_reals 6 0 limits 0

abbrev none : ℕ → AnalogOf Float
none period = analog_reals 0 0 limits period

abbrev level : ℕ → Option Float
level pattern = some (real pattern)

-- 800 meets H, 780 neither meets nor clears it, 779.5 clears it
high : (met reals both H (level 0x44480000) zero_real ≡ true) × (met reals both H (level 0x44430000) zero_real ≡ false)
    × (frees reals both H (level 0x44430000) ≡ false) × (frees reals both H (level 0x4442E000) ≡ true)
unfolding met frees le of_bits sub
high = (refl, refl, refl, refl)

-- 600 meets L, 620 does not clear it, 620.5 does
low : (met reals both L (level 0x44160000) zero_real ≡ true) × (frees reals both L (level 0x441B0000) ≡ false) × (frees reals both L (level 0x441B2000) ≡ true)
unfolding met frees le of_bits add
low = (refl, refl, refl)

-- a level that is not enabled is not met, and what is no number meets none
disabled-level : met_bits reals (none 0) (level 0x44480000) zero_real ≡ false ∷ false ∷ false ∷ false ∷ false ∷ false ∷ []
unfolding met_bits met lt of_bits
disabled-level = refl

not-a-level : met_bits reals both O.none zero_real ≡ false ∷ false ∷ false ∷ false ∷ false ∷ false ∷ []
unfolding met_bits met lt of_bits
not-a-level = refl

-- the sample 800 at time 0
abbrev first : Sample Float
first = record { value = real 0x44480000; rate = zero_real; at = 0 }

-- the first enabled scan stores the reading, with rate 0
stored : (s : Sample Float) → sample_after reals (record { period = 1000; enabled = true; held = false; time = 0; reading = level 0x44480000 }) s ≡ first
unfolding sample_after
stored s = refl

-- 810 at 999 keeps the sample and its rate
early : sample_after reals (record { period = 1000; enabled = true; held = true; time = 999; reading = level 0x444A8000 }) first ≡ first
unfolding sample_after
early = refl

-- 805 at 1000 gives rate 5
due : sample_after reals (record { period = 1000; enabled = true; held = true; time = 1000; reading = level 0x44494000 }) first
    ≡ record { value = real 0x44494000; rate = real 0x40A00000; at = 1000 }
unfolding sample_after new_rate of_bits of_int sub mul div
due = refl

-- rate 5 meets ROCPos and rate -5 meets ROCNeg, and with period 0 neither does
abbrev rates : ℕ → Float → List Bool
rates period rate = met_bits reals (none period) (some zero_real) rate

positive : rates 1000 (real 0x40A00000) ≡ false ∷ false ∷ false ∷ false ∷ true ∷ false ∷ []
unfolding met_bits met lt le neg of_bits
positive = refl

negative : rates 1000 (real 0xC0A00000) ≡ false ∷ false ∷ false ∷ false ∷ false ∷ true ∷ []
unfolding met_bits met lt le neg of_bits
negative = refl

no-rates : rates 0 (real 0x40A00000) ≡ false ∷ false ∷ false ∷ false ∷ false ∷ false ∷ []
unfolding met_bits met lt of_bits
no-rates = refl

-- a disabled scan has rate 0, whatever came before
disabled-scan : (period time : ℕ) (held : Bool) (x : Option Float) (s : Sample Float)
    → (sample_after reals (record { period = period; enabled = false; held = held; time = time; reading = x }) s).rate ≡ zero_real
unfolding sample_after
disabled-scan period time held x s = refl
