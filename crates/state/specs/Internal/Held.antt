-- What an alarm keeps between scans, readable, and how it is packed.
use Rattle.std.specs.Prelude.{ℕ, Bool, false, List, [], ◌∷◌, Float}
use Rattle.wire.specs.Bits.{bit}
use Rattle.wire.specs.Internal.Words.{word_of}
use Rattle.wire.specs.Internal.Places.{disabled_flag, suppressed_flag, faulted_flag, sampled_flag, high_flag, low_flag, free_flags, condition_bit}
use Rattle.std.specs.Float.{binary32}
use Rattle.std.specs.Float.Ieee.{of_bits, to_bits}
use Rattle.settings.specs.Condition as Condition
use Rattle.level.specs.Internal.Sample.{Sample}
use Rattle.state.specs.Internal.State.{State}

-- a condition: in alarm, unacknowledged, the last scan was enabled and met it, and when the last row of such scans began
pub record Cell : Type 0 where
  pub alarm : Bool
  pub unacked : Bool
  pub row : Bool
  pub start : ℕ

-- a side: the last scan was enabled and met a level of it, and when the last run of such scans began
pub record Run : Type 0 where
  pub on : Bool
  pub start : ℕ

-- the condition at a place, from its bits and its start
abbrev pub cell_at : State → ℕ → ℕ → Cell
cell_at s c start =
    record { alarm = bit s.flags (condition_bit c 0); unacked = bit s.flags (condition_bit c 1); row = bit s.flags (condition_bit c 2); start = start }

-- ---- a digital alarm

pub record DigitalHeld : Type 0 where
  pub disabled : Bool
  pub suppressed : Bool
  pub faulted : Bool
  pub previous : ℕ
  pub cell : Cell

abbrev pub look_digital : State → DigitalHeld
look_digital s =
    record {
      disabled = bit s.flags disabled_flag;
      suppressed = bit s.flags suppressed_flag;
      faulted = bit s.flags faulted_flag;
      previous = s.previous;
      cell = cell_at s 0 s.hh;
    }

abbrev pub digital_flags : DigitalHeld → List Bool
digital_flags d =
    d.disabled ∷ d.suppressed ∷ d.faulted ∷ false ∷ false ∷ false ∷ free_flags (d.cell.alarm ∷ d.cell.unacked ∷ d.cell.row ∷ [])

-- what a digital alarm does not use stays as it is
abbrev pub hide_digital : State → DigitalHeld → State
hide_digital s d =
    record {
      flags = word_of (digital_flags d);
      previous = d.previous;
      sample = s.sample;
      rate = s.rate;
      sampled = s.sampled;
      high = s.high;
      low = s.low;
      hh = d.cell.start;
      h = s.h;
      l = s.l;
      ll = s.ll;
      rocpos = s.rocpos;
      rocneg = s.rocneg;
    }

-- ---- an analog alarm

pub data Six : Type 0 where
  HH H L LL ROCPos ROCNeg : Six

pub data Side : Type 0 where
  High Low : Side

-- a condition's place among the six
abbrev pub place : Six → ℕ
place HH = 0
place H = 1
place L = 2
place LL = 3
place ROCPos = 4
place ROCNeg = 5

-- the condition that it is
abbrev pub of_six : Six → Condition.Condition
of_six HH = Condition.HH
of_six H = Condition.H
of_six L = Condition.L
of_six LL = Condition.LL
of_six ROCPos = Condition.ROCPos
of_six ROCNeg = Condition.ROCNeg

-- of any form of numbers
pub record AnalogHeld (X : Type 0) : Type 0 where
  pub disabled : Bool
  pub suppressed : Bool
  pub faulted : Bool
  -- a rate sample is stored
  pub held : Bool
  pub previous : ℕ
  pub sample : Sample X
  pub run : Side → Run
  pub cell : Six → Cell

abbrev pub run_of : State → Side → Run
run_of s High = record { on = bit s.flags high_flag; start = s.high }
run_of s Low = record { on = bit s.flags low_flag; start = s.low }

abbrev pub cell_of : State → Six → Cell
cell_of s HH = cell_at s 0 s.hh
cell_of s H = cell_at s 1 s.h
cell_of s L = cell_at s 2 s.l
cell_of s LL = cell_at s 3 s.ll
cell_of s ROCPos = cell_at s 4 s.rocpos
cell_of s ROCNeg = cell_at s 5 s.rocneg

-- how the numbers of a form stand in 32 bits
pub record Patterns (X : Type 0) : Type 0 where
  pub value : ℕ → X
  pub pattern : X → ℕ

abbrev pub real_patterns : Patterns Float
real_patterns = record { value = of_bits binary32; pattern = to_bits binary32 }

abbrev pub look_analog : {X : Type 0} → Patterns X → State → AnalogHeld X
look_analog p s =
    record {
      disabled = bit s.flags disabled_flag;
      suppressed = bit s.flags suppressed_flag;
      faulted = bit s.flags faulted_flag;
      held = bit s.flags sampled_flag;
      previous = s.previous;
      sample = record { value = p.value s.sample; rate = p.value s.rate; at = s.sampled };
      run = run_of s;
      cell = cell_of s;
    }

abbrev pub cell_flags : Cell → List Bool → List Bool
cell_flags c rest = c.alarm ∷ c.unacked ∷ c.row ∷ rest

abbrev pub analog_flags : {X : Type 0} → AnalogHeld X → List Bool
analog_flags a =
    a.disabled ∷ a.suppressed ∷ a.faulted ∷ a.held ∷ (a.run High).on ∷ (a.run Low).on
    ∷ free_flags
    (cell_flags (a.cell HH)
    (cell_flags (a.cell H) (cell_flags (a.cell L) (cell_flags (a.cell LL) (cell_flags (a.cell ROCPos) (cell_flags (a.cell ROCNeg) []))))))

-- the packed state with these flags and patterns of sample and rate
abbrev pub packed : {X : Type 0} → AnalogHeld X → ℕ → ℕ → ℕ → State
packed a f sample rate =
    record {
      flags = f;
      previous = a.previous;
      sample = sample;
      rate = rate;
      sampled = a.sample.at;
      high = (a.run High).start;
      low = (a.run Low).start;
      hh = (a.cell HH).start;
      h = (a.cell H).start;
      l = (a.cell L).start;
      ll = (a.cell LL).start;
      rocpos = (a.cell ROCPos).start;
      rocneg = (a.cell ROCNeg).start;
    }

abbrev pub hide_analog : {X : Type 0} → AnalogHeld X → ℕ → ℕ → State
hide_analog a sample rate = packed a (word_of (analog_flags a)) sample rate

-- before the first scan, for either kind
abbrev pub fresh_state : State
fresh_state =
    record {
      flags = 0;
      previous = 0;
      sample = 0;
      rate = 0;
      sampled = 0;
      high = 0;
      low = 0;
      hh = 0;
      h = 0;
      l = 0;
      ll = 0;
      rocpos = 0;
      rocneg = 0;
    }
