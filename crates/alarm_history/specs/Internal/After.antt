-- What the step keeps of an alarm after a list of scans, scan by scan; and the same read off the scans.
use Rattle.std.specs.Prelude.{ℕ, ◌-◌, min, List, [], ◌∷◌, Bool, false, not, ◌&&◌, cond}
use Rattle.wire.specs.Internal.Places.{free_events}
use Rattle.settings.specs.Condition.{Condition, In}
use Rattle.settings.specs.Numbers.{Numbers, AnalogOf}
use Rattle.settings.specs.declared.types.Alarm.{Alarm}
use Rattle.history.specs.Past.{Fact, holds}
use Rattle.history.specs.Demand.{count, activation, answer, return}
use Rattle.history.specs.Internal.Row.{begun}
use Rattle.history.specs.Internal.Condition.{Kept, kept, acknowledges, returns, activates}
use Rattle.condition.specs.Command.{count_resets}
use Rattle.condition.specs.Internal.Mark.{Marks, Turn, marks_after, no_marks, time_stamp_after}
use Rattle.level.specs.Internal.Sample.{no_sample}
use Rattle.state.specs.Internal.Held.{Cell, Six, of_six, Side, High, Low, DigitalHeld, AnalogHeld}
use Rattle.digital.specs.Internal.Digital.{digital_required, digital_told, digital_after}
use Rattle.analog.specs.Internal.Analog.{analog_required, analog_told, cell_after, analog_after}
use Rattle.alarm_history.specs.Scans.{Scan, previous, disabled_in, suppressed_in, faulted_in, enabled, count_reset}
use Rattle.alarm_history.specs.Sample.{sampled_at, sample_in, rate_in}
use Rattle.alarm_history.specs.Facts.{Rules, digital_rules, analog_rules, run, facts}
use Rattle.alarm_history.specs.Stamps.{own_start, alarm_stamp, ack_stamp, return_stamp}

-- a fresh alarm: enabled, not suppressed, not in alarm, acknowledged
abbrev pub fresh_digital : DigitalHeld
fresh_digital =
    record { disabled = false; suppressed = false; faulted = false; previous = 0; cell = record { alarm = false; unacked = false; row = false; start = 0 } }

abbrev pub fresh_analog : {X : Type 0} → Numbers X → AnalogHeld X
fresh_analog n =
    record {
      disabled = false;
      suppressed = false;
      faulted = false;
      held = false;
      previous = 0;
      sample = no_sample n;
      run = λ s. record { on = false; start = 0 };
      cell = λ c. record { alarm = false; unacked = false; row = false; start = 0 };
    }

-- how long a run has lasted, capped at MinDuration; 0 without a run
abbrev pub elapsed : ℕ → Bool → ℕ → ℕ → ℕ
elapsed duration on start time = cond on (min duration (time - start)) 0

-- the count reset stamp, scan by scan, by the previous word that is kept
unfoldable pub reset_kept : (List Scan → ℕ) → List Scan → ℕ
reset_kept kept [] = 0
reset_kept kept (s ∷ past) = time_stamp_after (count_resets s.word (kept past)) s.time (reset_kept kept past)

-- the level whose run is that of a side
abbrev pub level_of : Side → Condition
level_of High = Condition.HH
level_of Low = Condition.L

-- kinds 1 to 5 as event bits, by what was disabled and suppressed and what is, and a count reset; then free bits
abbrev pub changes : Bool → Bool → Bool → Bool → Bool → List Bool
changes wasDisabled wasSuppressed disabled suppressed reset =
    (disabled && not wasDisabled) ∷ (not disabled && wasDisabled) ∷ (suppressed && not wasSuppressed) ∷ (not suppressed && wasSuppressed) ∷ reset ∷ free_events

abbrev pub whole_bits : Scan → List Scan → List Bool
whole_bits s past = changes (disabled_in past) (suppressed_in past) (disabled_in (s ∷ past)) (suppressed_in (s ∷ past)) (count_reset s past)

-- ---- read off the scans, by the rules of the alarm

module _ (r : Rules) where
  -- kinds 6, 7, 8 of a condition
  abbrev pub condition_bits : Scan → List Scan → Condition → List Bool → List Bool
  condition_bits s past c rest = answer (facts r) c s past ∷ return (facts r) c s past ∷ activation (facts r) c s past ∷ rest

  -- what each condition keeps
  abbrev pub kept_in : List Scan → Condition → Kept
  kept_in = kept (facts r) r.frees

  -- enabled scans that met the condition itself
  abbrev pub own : Condition → Fact Scan
  own c s past = enabled s past && r.met c s past

  -- what a condition keeps, with its own row
  abbrev pub cell_in : List Scan → Condition → Cell
  cell_in scans c =
      record {
        alarm = (kept_in scans c).alarm;
        unacked = (kept_in scans c).unacked;
        row = holds (own c) scans;
        start = begun (λ x. x.time) (own c) scans;
      }

  -- what a scan did to a condition, and what is kept of it
  abbrev pub turn_in : Condition → Scan → List Scan → Turn
  turn_in c s past =
      record {
        reset = count_reset s past;
        acknowledged = answer (facts r) c s past;
        returned = return (facts r) c s past;
        activated = activation (facts r) c s past;
        required = (facts r).required;
        start = own_start r c s past;
        time = s.time;
      }

  abbrev pub marks_in : Condition → List Scan → Marks
  marks_in c scans =
      record { count = count (facts r) scans c; alarm = alarm_stamp r c scans; ack = ack_stamp r c scans; return = return_stamp r c scans }

-- ---- a digital alarm

module _ (a : Alarm) where
  unfoldable pub digital_run : List Scan → DigitalHeld
  digital_run [] = fresh_digital
  digital_run (s ∷ past) = digital_after a s.reading s.word s.time (digital_run past)

  -- the same read off the scans
  abbrev pub digital_from : List Scan → DigitalHeld
  digital_from scans =
      record {
        disabled = disabled_in scans;
        suppressed = suppressed_in scans;
        faulted = faulted_in scans;
        previous = previous scans;
        cell = cell_in (digital_rules a) scans In;
      }

  -- counts and stamps, from what each scan did
  abbrev pub digital_turn : Scan → DigitalHeld → Turn
  digital_turn s d =
      let t = digital_told a s.reading s.word s.time d in
      record {
        reset = count_resets s.word d.previous;
        acknowledged = acknowledges t d.cell.unacked;
        returned = returns t d.cell.alarm;
        activated = activates t d.cell.alarm;
        required = digital_required a.flags;
        start = (digital_after a s.reading s.word s.time d).cell.start;
        time = s.time;
      }

  unfoldable pub digital_marks : List Scan → Marks
  digital_marks [] = no_marks
  digital_marks (s ∷ past) = marks_after (digital_turn s (digital_run past)) (digital_marks past)

-- ---- an analog alarm, of any form of numbers

module _ {X : Type 0} (n : Numbers X) (a : AnalogOf X) where
  unfoldable pub analog_run : List Scan → AnalogHeld X
  analog_run [] = fresh_analog n
  analog_run (s ∷ past) = analog_after n a s.reading s.word s.time (analog_run past)

  -- the same read off the scans; AckRequired as given
  abbrev pub analog_from : Bool → List Scan → AnalogHeld X
  analog_from required scans =
      let r : Rules = analog_rules n a required in
      record {
        disabled = disabled_in scans;
        suppressed = suppressed_in scans;
        faulted = faulted_in scans;
        held = holds enabled scans;
        previous = previous scans;
        sample = record { value = sample_in n a scans; rate = rate_in n a scans; at = sampled_at a.period scans };
        run = λ s. record { on = holds (run r (level_of s)) scans; start = begun (λ x. x.time) (run r (level_of s)) scans };
        cell = λ c. cell_in r scans (of_six c);
      }

  -- counts and stamps, from what each scan did
  abbrev pub analog_turn : Scan → AnalogHeld X → Six → Turn
  analog_turn s h c =
      let t = analog_told n a s.reading s.word s.time h c in
      record {
        reset = count_resets s.word h.previous;
        acknowledged = acknowledges t (h.cell c).unacked;
        returned = returns t (h.cell c).alarm;
        activated = activates t (h.cell c).alarm;
        required = analog_required a.flags;
        start = (cell_after n a s.reading s.word s.time h c).start;
        time = s.time;
      }

  unfoldable pub analog_marks : List Scan → Six → Marks
  analog_marks [] c = no_marks
  analog_marks (s ∷ past) c = marks_after (analog_turn s (analog_run past) c) (analog_marks past c)
