-- What an alarm keeps between scans, and the words that it stands in.
use Rattle.std.specs.Prelude.{ℕ, ◌+◌, List, [], ◌∷◌, get_or}
use Rattle.layout.specs.Internal.Words.{lower_of, upper_of, pair_of}

-- Of `flags`: those of the whole alarm (`disabled_flag` to `low_flag`), free bits, then for each condition in order, from `first_condition` on,
-- in alarm, unacknowledged, its row of met scans goes on. A digital alarm has one condition, with the start of HH.
pub record State : Type 0 where
  pub flags : ℕ
  -- the last accepted command word
  pub previous : ℕ
  -- the rate sample and the rate, by their 32-bit patterns, and the sample's time
  pub sample : ℕ
  pub rate : ℕ
  pub sampled : ℕ
  -- when the last runs of the sides began
  pub high : ℕ
  pub low : ℕ
  -- when the last rows of the conditions began
  pub hh : ℕ
  pub h : ℕ
  pub l : ℕ
  pub ll : ℕ
  pub rocpos : ℕ
  pub rocneg : ℕ

-- a state after a scan, and the events of the scan: bits 0 to 4 for kinds 1 to 5, free bits, then for each condition in order, from
-- `first_condition` on, acknowledged, returned, activated
pub record Stepped : Type 0 where
  pub state : State
  pub events : ℕ

-- the starts of the conditions' rows, in order
abbrev pub starts_of : State → List ℕ
starts_of s = s.hh ∷ s.h ∷ s.l ∷ s.ll ∷ s.rocpos ∷ s.rocneg ∷ []

-- the 11 words of a state
unfoldable pub state_words : State → List ℕ
state_words s = pair_of s.flags s.previous ∷ pair_of s.sample s.rate ∷ s.sampled ∷ s.high ∷ s.low ∷ starts_of s

-- the state that the 11 words from an offset on stand for, whatever they are
unfoldable pub state_in : List ℕ → ℕ → State
state_in ws at =
    record {
      flags = lower_of (get_or ws at 0);
      previous = upper_of (get_or ws at 0);
      sample = lower_of (get_or ws (at + 1) 0);
      rate = upper_of (get_or ws (at + 1) 0);
      sampled = get_or ws (at + 2) 0;
      high = get_or ws (at + 3) 0;
      low = get_or ws (at + 4) 0;
      hh = get_or ws (at + 5) 0;
      h = get_or ws (at + 6) 0;
      l = get_or ws (at + 7) 0;
      ll = get_or ws (at + 8) 0;
      rocpos = get_or ws (at + 9) 0;
      rocneg = get_or ws (at + 10) 0;
    }
