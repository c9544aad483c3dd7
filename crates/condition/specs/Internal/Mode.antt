-- The modes of an alarm: enabled or disabled, suppressed, InFaulted; and the events of the whole alarm.
use Rattle.std.specs.Prelude.{ℕ, Bool, not, ◌&&◌, ◌||◌, List, ◌∷◌}
use Rattle.wire.specs.Internal.Places.{free_events}
use Rattle.condition.specs.Command.{enables, disables, suppresses, unsuppresses, count_resets, faults}

-- enable if any enable bit, else disable if any disable bit
abbrev pub disabled_after : ℕ → Bool → Bool
disabled_after word disabled = not (enables word) && (disables word || disabled)

-- unsuppress if any unsuppress bit, else suppress if any suppress bit
abbrev pub suppressed_after : ℕ → Bool → Bool
suppressed_after word suppressed = not (unsuppresses word) && (suppresses word || suppressed)

-- events of the whole alarm: 1 disabled, 2 enabled, 3 suppressed, 4 unsuppressed only on a change, 5 on every count reset; then free bits
abbrev pub whole_events : Bool → Bool → ℕ → ℕ → List Bool
whole_events disabled suppressed word previous =
    (disabled_after word disabled && not disabled) ∷ (not (disabled_after word disabled) && disabled)
    ∷ (suppressed_after word suppressed && not suppressed) ∷ (not (suppressed_after word suppressed) && suppressed)
    ∷ count_resets word previous ∷ free_events

-- disabled, suppressed and InFaulted after the scan, then the events of the whole alarm
unfoldable pub mode_bits : Bool → Bool → ℕ → ℕ → List Bool
mode_bits disabled suppressed word previous =
    disabled_after word disabled ∷ suppressed_after word suppressed ∷ faults word ∷ whole_events disabled suppressed word previous
