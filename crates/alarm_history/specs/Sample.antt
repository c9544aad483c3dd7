-- The reading that the rules see, and the rate with its sample, from the scans of an analog alarm.
use Rattle.std.specs.Prelude.{ℕ, ◌-◌, List, [], ◌∷◌, Bool, not, ◌&&◌, cond, leb}
use Rattle.std.proofs.Math.Option.{Option, none}
use Rattle.settings.specs.Numbers.{Numbers, AnalogOf, value_of}
use Rattle.history.specs.Past.{Fact, holds}
use Rattle.alarm_history.specs.Scans.{Scan, enabled}

-- a sample stored at a time stays, given whether the scan before was enabled: it was, and the scan is less than ROCPeriod after the sample
abbrev pub stays_from : ℕ → ℕ → Bool → ℕ → Bool
stays_from period at held time = held && not (leb period (time - at))

-- when the sample was stored: times and commands alone say which scan it is
unfoldable pub sampled_at : ℕ → List Scan → ℕ
sampled_at period [] = 0
sampled_at period (s ∷ past) =
    cond (stays_from period (sampled_at period past) (holds enabled past) s.time) (sampled_at period past) s.time

-- the scan leaves the sample; else its reading becomes the sample
abbrev pub keeps_sample : ℕ → Fact Scan
keeps_sample period s past = stays_from period (sampled_at period past) (holds enabled past) s.time

module _ {X : Type 0} (n : Numbers X) where
  -- the reading that the rules see after a list of scans
  abbrev pub seen : List Scan → Option X
  seen [] = none
  seen (s ∷ past) = n.number s.reading

  module _ (a : AnalogOf X) where
    -- the sample
    unfoldable pub sample_in : List Scan → X
    sample_in [] = n.nought
    sample_in (s ∷ past) = cond (keeps_sample a.period s past) (sample_in past) (value_of n (seen (s ∷ past)))

    -- the rate: 0 with the first sample and in a disabled scan, a new one with each further sample
    unfoldable pub rate_in : List Scan → X
    rate_in [] = n.nought
    rate_in (s ∷ past) =
        cond (enabled s past && holds enabled past)
        (cond (keeps_sample a.period s past) (rate_in past) (n.rated a.period (sample_in past) (value_of n (seen (s ∷ past)))))
        n.nought
