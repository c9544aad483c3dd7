-- One scan of a digital alarm, in document 01's order.
use Rattle.std.specs.Prelude.{ℕ, ◌+◌, ◌*◌, ◌-◌, Bool, not, ◌&&◌, cond, List, [], ◌∷◌, ◌++◌, leb}
use Rattle.wire.specs.Bits.{bit}
use Rattle.wire.specs.Internal.Words.{word_of}
use Rattle.wire.specs.Internal.Places.{condition_unit}
use Rattle.settings.specs.declared.types.Alarm.{Alarm}
use Rattle.settings.specs.declared.types.Kind.TheVariants.{Digital}
use Rattle.settings.specs.declared.types.Reading.{Reading}
use Rattle.history.specs.Internal.Row.{start_kept}
use Rattle.history.specs.Internal.Condition.{Told, alarm_after, unacked_after, acknowledges, returns, activates}
use Rattle.condition.specs.Command.{resets, acks_all, faults}
use Rattle.condition.specs.Internal.Mode.{disabled_after, suppressed_after, whole_events}
use Rattle.level.specs.Level.{bit_met, bit_frees}
use Rattle.state.specs.Internal.Held.{DigitalHeld, look_digital, hide_digital}
use Rattle.state.specs.Internal.State.{State, Stepped}

-- the settings of a digital alarm that its step looks at
abbrev pub digital_of : ℕ → ℕ → Alarm
digital_of flags duration = record { flags = flags; duration = duration; kind = Digital 0 }

-- AckRequired
abbrev pub digital_required : ℕ → Bool
digital_required flags = bit flags 1

module _ (a : Alarm) (x : Reading) (word time : ℕ) (d : DigitalHeld) where
  abbrev pub digital_met : Bool
  digital_met = bit_met a.flags x

  -- the run is the row of scans that met the condition: when it began, if this scan goes on with it or begins it
  abbrev pub digital_start : ℕ
  digital_start = cond d.cell.row d.cell.start time

  abbrev pub digital_told : Told
  digital_told =
      record {
        enabled = not (disabled_after word d.disabled);
        met = digital_met;
        frees = bit_frees a.flags (resets word d.previous);
        ready = leb a.duration (time - digital_start);
        ack = acks_all word d.previous;
        required = digital_required a.flags;
      }

  abbrev pub digital_after : DigitalHeld
  digital_after =
      record {
        disabled = disabled_after word d.disabled;
        suppressed = suppressed_after word d.suppressed;
        faulted = faults word;
        previous = word;
        cell = record {
          alarm = alarm_after digital_told d.cell.alarm;
          unacked = unacked_after digital_told d.cell.alarm d.cell.unacked;
          row = digital_told.enabled && digital_met;
          start = start_kept (digital_told.enabled && digital_met) d.cell.row time d.cell.start;
        };
      }

  -- the events in order
  abbrev pub digital_events : List Bool
  digital_events =
      whole_events d.disabled d.suppressed word d.previous
      ++ (acknowledges digital_told d.cell.unacked ∷ returns digital_told d.cell.alarm ∷ activates digital_told d.cell.alarm ∷ [])

-- on the packed state
unfoldable pub digital_step : Alarm → State → Reading → ℕ → ℕ → Stepped
digital_step a s x word time =
    record {
      state = hide_digital s (digital_after a x word time (look_digital s));
      events = word_of (digital_events a x word time (look_digital s));
    }

-- flags that say nothing but whether the condition is in alarm, in a row then, and unacknowledged, 0 or 1
abbrev pub rest_flags : Bool → ℕ → ℕ
rest_flags met unacked = cond met (5 * condition_unit) 0 + 2 * condition_unit * unacked
