-- The words of the rate sample after a scan.
use Rattle.std.specs.Prelude.{ℕ, ◌-◌, Bool, not, ◌&&◌, cond, leb, Float}
use Rattle.std.specs.Float.{binary32}
use Rattle.std.specs.Float.Ieee.{of_bits, to_bits}
use Rattle.wire.specs.Bits.{bit}
use Rattle.wire.specs.Internal.Places.{sampled_flag}
use Rattle.layout.specs.Internal.Words.{lower_of, upper_of, pair_of}
use Rattle.settings.specs.Numbers.{new_rate}

-- the stored sample stays, by the flags and its time
abbrev pub stays_in : ℕ → ℕ → ℕ → ℕ → Bool
stays_in flags period sampled time = bit flags sampled_flag && not (leb period (time - sampled))

-- the pattern of the rate after a scan, by the word of sample and rate
unfoldable pub rate_in : ℕ → Bool → ℕ → ℕ → ℕ → Float → ℕ → ℕ
rate_in flags enabled period pair sampled x time =
    cond (enabled && stays_in flags period sampled time) (upper_of pair)
    (cond (enabled && bit flags sampled_flag) (to_bits binary32 (new_rate period (of_bits binary32 (lower_of pair)) x)) 0)

-- the word of sample and rate
abbrev pub sample_in : ℕ → Bool → ℕ → ℕ → ℕ → Float → ℕ → ℕ
sample_in flags enabled period pair sampled x time =
    pair_of (cond (stays_in flags period sampled time) (lower_of pair) (to_bits binary32 x)) (rate_in flags enabled period pair sampled x time)

-- and that of the sample's time
abbrev pub sampled_in : ℕ → ℕ → ℕ → ℕ → ℕ
sampled_in flags period sampled time = cond (stays_in flags period sampled time) sampled time
