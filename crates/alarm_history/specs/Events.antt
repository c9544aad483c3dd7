-- The events of one alarm in one scan, in document 01's order.
use Rattle.std.specs.Prelude.{ℕ, Bool, not, ◌&&◌, cond}
use mathlib.Core.List.{List, [], ◌∷◌, foldr}
use Rattle.settings.specs.Condition.{Condition, conditions_of, number_of, severity_of}
use Rattle.settings.specs.declared.types.Alarm.{Alarm}
use Rattle.history.specs.Demand.{activation, answer, return}
use Rattle.settings.specs.Severity.{acting}
use Rattle.event.specs.Event.{Event}
use Rattle.alarm_history.specs.Scans.{Scan, disabled_in, suppressed_in, count_reset}
use Rattle.alarm_history.specs.Facts.{rules_of, facts}

-- an event that happens, in front of the rest
abbrev pub when : Bool → Event → List Event → List Event
when happens event rest = cond happens (event ∷ rest) rest

-- of the alarm with number n in the scan s, after the scans `past`
module _ (n : ℕ) (a : Alarm) (s : Scan) (past : List Scan) where
  abbrev pub event_of : ℕ → ℕ → ℕ → Event
  event_of condition severity kind =
      record { alarm = n; condition = condition; kind = kind; suppressed = suppressed_in (s ∷ past); severity = severity; time = s.time }

  -- of the whole alarm, and of a condition
  abbrev pub whole_event : ℕ → Event
  whole_event kind = event_of 7 0 kind

  abbrev pub condition_event : Condition → ℕ → Event
  condition_event c kind = event_of (number_of c) (acting (severity_of a.kind c)) kind

  -- became disabled or enabled, suppressed or unsuppressed, and every count reset
  abbrev pub whole_log : List Event → List Event
  whole_log rest =
      when (disabled_in (s ∷ past) && not (disabled_in past)) (whole_event 1)
      (when (not (disabled_in (s ∷ past)) && disabled_in past) (whole_event 2)
      (when (suppressed_in (s ∷ past) && not (suppressed_in past)) (whole_event 3)
      (when (not (suppressed_in (s ∷ past)) && suppressed_in past) (whole_event 4)
      (when (count_reset s past) (whole_event 5) rest))))

  -- of a condition: was unacknowledged and is acknowledged, was in alarm and is cleared, is activated; a disabled alarm has none of these
  abbrev pub condition_log : Condition → List Event → List Event
  condition_log c rest =
      when (answer (facts (rules_of a)) c s past) (condition_event c 6)
      (when (return (facts (rules_of a)) c s past) (condition_event c 7) (when (activation (facts (rules_of a)) c s past) (condition_event c 8) rest))

  -- those of the whole alarm, then of each condition by number
  abbrev pub alarm_log : List Event
  alarm_log = whole_log (foldr condition_log [] (conditions_of a.kind))
