-- The rules of an analog alarm's numbers, of any form: ranges (refusal 4), order of levels and Deadband (refusal 5).
use Rattle.std.specs.Prelude.{ℕ, Bool, not, ◌&&◌, ◌||◌, cond, leb}
use Rattle.settings.specs.Condition.{Condition, HH, H, L, LL, ROCPos, ROCNeg, on}
use Rattle.settings.specs.Numbers.{Numbers}

-- MinDuration as a DINT that is not negative
abbrev pub duration_in_range : ℕ → Bool
duration_in_range d = leb d 2147483647

module _ {X : Type 0} (n : Numbers X) where
  -- at least 0, which -0.0 is
  abbrev pub non_negative : X → Bool
  non_negative x = n.at_most n.nought x

  -- each number inside its range, whether its level is enabled or not; Deadband and both rate limits at least 0
  unfoldable pub limits_in_range : (Condition → X) → X → Bool
  limits_in_range limit deadband =
      n.inside (limit HH) && n.inside (limit H) && n.inside (limit L) && n.inside (limit LL)
      && (n.inside deadband && n.inside (limit ROCPos) && n.inside (limit ROCNeg))
      && non_negative deadband && non_negative (limit ROCPos) && non_negative (limit ROCNeg)

  -- rule 4 of an analog record; ROCPeriod is at most 3,600,000
  unfoldable pub in_range : (Condition → X) → X → ℕ → ℕ → Bool
  in_range limit deadband period duration = limits_in_range limit deadband && leb period 3600000 && duration_in_range duration

  module _ (flags : ℕ) (limit : Condition → X) where
    -- a lower level stands strictly below an upper one, where both are enabled
    abbrev pub ordered : Condition → Condition → Bool
    ordered c d = not (on flags c && on flags d) || n.below (limit c) (limit d)

    -- the enabled ones of LL, L, H, HH rise strictly: each stands below each after it
    unfoldable pub rising : Bool
    rising = ordered LL L && ordered LL H && ordered LL HH && ordered L H && ordered L HH && ordered H HH

    -- the higher enabled low limit and the lower enabled high limit, of levels that rise
    abbrev pub low_of : X
    low_of = cond (on flags L) (limit L) (limit LL)

    abbrev pub high_of : X
    high_of = cond (on flags H) (limit H) (limit HH)

    -- where both sides have an enabled level: low < high - Deadband and low + Deadband < high
    unfoldable pub banded : X → Bool
    banded deadband =
        not ((on flags HH || on flags H) && (on flags L || on flags LL))
        || n.below low_of (n.minus high_of deadband) && n.below (n.plus low_of deadband) high_of

    -- rule 5 of an analog record
    unfoldable pub apart : X → Bool
    apart deadband = rising && banded deadband
