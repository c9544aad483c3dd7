-- One scan of an analog alarm of any form of numbers, in document 01's order.
use Rattle.std.specs.Prelude.{ℕ, ◌-◌, Bool, true, not, ◌&&◌, ◌||◌, cond, List, [], ◌∷◌, ◌++◌, leb}
use Rattle.wire.specs.Bits.{bit}
use Rattle.wire.specs.Internal.Words.{word_of}
use Rattle.settings.specs.Numbers.{Numbers, AnalogOf}
use Rattle.settings.specs.declared.types.Reading.{Reading}
use Rattle.history.specs.Internal.Row.{start_kept}
use Rattle.history.specs.Internal.Condition.{Told, alarm_after, unacked_after, acknowledges, returns, activates}
use Rattle.level.specs.Level.{met, frees}
use Rattle.level.specs.Internal.Sample.{Sample, sample_after}
use Rattle.condition.specs.Command.{acks, faults}
use Rattle.condition.specs.Internal.Mode.{disabled_after, suppressed_after, whole_events}
use Rattle.state.specs.Internal.Held.{Cell, Six, HH, H, L, LL, ROCPos, ROCNeg, Side, High, Low, of_six, AnalogHeld, Patterns, look_analog, hide_analog}
use Rattle.state.specs.Internal.State.{State, Stepped}

-- AckRequired of an analog alarm
abbrev pub analog_required : ℕ → Bool
analog_required flags = bit flags 4

-- a side had a condition in alarm
abbrev pub side_alarm : (Six → Bool) → Side → Bool
side_alarm before High = before HH || before H
side_alarm before Low = before L || before LL

module _ {X : Type 0} (n : Numbers X) (a : AnalogOf X) (x : Reading) (word time : ℕ) (h : AnalogHeld X) where
  abbrev pub analog_enabled : Bool
  analog_enabled = not (disabled_after word h.disabled)

  abbrev pub analog_sample : Sample X
  analog_sample =
      sample_after n (record { period = a.period; enabled = analog_enabled; held = h.held; time = time; reading = n.number x }) h.sample

  abbrev pub analog_met : Six → Bool
  analog_met c = met n a (of_six c) (n.number x) analog_sample.rate

  abbrev pub side_met : Side → Bool
  side_met High = analog_met HH || analog_met H
  side_met Low = analog_met L || analog_met LL

  -- when the run of a side began, if this scan goes on with it or begins it
  abbrev pub run_start : Side → ℕ
  run_start s = cond (h.run s).on (h.run s).start time

  -- a level is ready where its side's run has lasted, or its side had a condition in alarm; a rate always
  abbrev pub side_ready : Side → Bool
  side_ready s = leb a.duration (time - run_start s) || side_alarm (λ c. (h.cell c).alarm) s

  abbrev pub analog_ready : Six → Bool
  analog_ready HH = side_ready High
  analog_ready H = side_ready High
  analog_ready L = side_ready Low
  analog_ready LL = side_ready Low
  analog_ready ROCPos = true
  analog_ready ROCNeg = true

  abbrev pub analog_told : Six → Told
  analog_told c =
      record {
        enabled = analog_enabled;
        met = analog_met c;
        frees = frees n a (of_six c) (n.number x);
        ready = analog_ready c;
        ack = acks word h.previous (of_six c);
        required = analog_required a.flags;
      }

  abbrev pub cell_after : Six → Cell
  cell_after c =
      record {
        alarm = alarm_after (analog_told c) (h.cell c).alarm;
        unacked = unacked_after (analog_told c) (h.cell c).alarm (h.cell c).unacked;
        row = analog_enabled && analog_met c;
        start = start_kept (analog_enabled && analog_met c) (h.cell c).row time (h.cell c).start;
      }

  abbrev pub analog_after : AnalogHeld X
  analog_after =
      record {
        disabled = disabled_after word h.disabled;
        suppressed = suppressed_after word h.suppressed;
        faulted = faults word;
        held = analog_enabled;
        previous = word;
        sample = analog_sample;
        run = λ s. record { on = analog_enabled && side_met s; start = start_kept (analog_enabled && side_met s) (h.run s).on time (h.run s).start };
        cell = cell_after;
      }

  -- events 6, 7, 8 of a condition
  abbrev pub cell_events : Six → List Bool → List Bool
  cell_events c rest =
      acknowledges (analog_told c) (h.cell c).unacked ∷ returns (analog_told c) (h.cell c).alarm ∷ activates (analog_told c) (h.cell c).alarm ∷ rest

  -- the events in order
  abbrev pub analog_events : List Bool
  analog_events =
      whole_events h.disabled h.suppressed word h.previous
      ++ cell_events HH (cell_events H (cell_events L (cell_events LL (cell_events ROCPos (cell_events ROCNeg [])))))

  -- the stored sample stays
  abbrev pub sample_stays : Bool
  sample_stays = h.held && not (leb a.period (time - h.sample.at))

-- on the packed state: what stays of sample and rate keeps its pattern
module _ {X : Type 0} (n : Numbers X) (p : Patterns X) (a : AnalogOf X) (s : State) (x : Reading) (word time : ℕ) where
  abbrev pub sample_pattern : ℕ
  sample_pattern =
      cond (sample_stays n a x word time (look_analog p s)) s.sample (p.pattern (analog_sample n a x word time (look_analog p s)).value)

  abbrev pub rate_pattern : ℕ
  rate_pattern =
      cond (analog_enabled n a x word time (look_analog p s) && sample_stays n a x word time (look_analog p s)) s.rate
      (p.pattern (analog_sample n a x word time (look_analog p s)).rate)

  unfoldable pub analog_step : Stepped
  analog_step =
      record {
        state = hide_analog (analog_after n a x word time (look_analog p s)) sample_pattern rate_pattern;
        events = word_of (analog_events n a x word time (look_analog p s));
      }
