-- The events of the step's event bits are those that the scans say. Assumes nothing.
use Prim.Native.Nat.{ℕ, suc}
use mathlib.Core.Path.{◌≡◌, refl, sym, ap, ◌∙◌}
use mathlib.Core.Bool.{Bool}
use mathlib.Core.List.{List, [], ◌∷◌, ◌++◌, foldr}
use Rattle.settings.specs.Internal.Reals.{real_analog}
use Rattle.settings.specs.Alarm.{ack_required}
use Rattle.settings.specs.Condition.{Condition, In, conditions_of}
use Rattle.settings.specs.Numbers.{reals}
use Rattle.settings.specs.declared.types.Alarm.{Alarm}
use Rattle.settings.specs.declared.types.Limits.{Limits}
use Rattle.settings.specs.declared.types.Severities.{Severities}
use Rattle.settings.specs.declared.types.Kind.{Kind}
use Rattle.settings.specs.declared.types.Kind.TheVariants.{Digital, Analog}
use Rattle.event.specs.Event.{Event}
use Rattle.digital.specs.Internal.Digital.{digital_events}
use Rattle.analog.specs.Internal.Analog.{analog_events}
use Rattle.event.specs.Internal.Events.{event_at, events_from}
use Rattle.alarm_history.specs.Scans.{Scan, suppressed_in}
use Rattle.alarm_history.specs.Facts.{Rules, rules_of}
use Rattle.alarm_history.specs.Events.{condition_event, whole_log, condition_log, alarm_log}
use Rattle.alarm_history.specs.Internal.After.{digital_from, analog_from, whole_bits, condition_bits}
use Rattle.alarm_history.proofs.Digital.{digital-required, digital-rules, digital-bits}
use Rattle.alarm_history.proofs.Analog.{six, analog-required, analog-rules, analog-bits}
use Rattle.wire.specs.Internal.Places.{first_condition}

module _ (n : ℕ) (a : Alarm) (s : Scan) (past : List Scan) where
  -- the events of the bits from the k-th on
  abbrev from : ℕ → List Bool → List Event
  from k bits = events_from n a.kind (suppressed_in (s ∷ past)) s.time k bits

  abbrev event : ℕ → Event
  event k = event_at n a.kind (suppressed_in (s ∷ past)) s.time k

  -- the three bits from the k-th on stand for the events of the first of these conditions, the next three for those of the next, and so on
  abbrev Placed : ℕ → List Condition → Type 0
  Placed k [] = Unit {0}
  Placed k (c ∷ cs) =
      (event k ≡ condition_event n a s past c 6) × (event (suc k) ≡ condition_event n a s past c 7) × (event (suc (suc k)) ≡ condition_event n a s past c 8)
      × Placed (suc (suc (suc k))) cs

  conditions-log : (k : ℕ) (cs : List Condition) → Placed k cs
      → from k (foldr (condition_bits (rules_of a) s past) [] cs) ≡ foldr (condition_log n a s past) [] cs
  unfolding events_from
  conditions-log k [] p = refl
  conditions-log k (c ∷ cs) p = rw (p.0, p.1, p.2, conditions-log (suc (suc (suc k))) cs p.3)

  whole-log : (cs : List Condition) → Placed first_condition cs
      → from 0 (whole_bits s past ++ foldr (condition_bits (rules_of a) s past) [] cs) ≡ whole_log n a s past (foldr (condition_log n a s past) [] cs)
  unfolding events_from
  whole-log cs p = ap (whole_log n a s past) (conditions-log first_condition cs p)

  placed : (k : Kind) → a.kind ≡ k → Placed first_condition (conditions_of k)
  placed (Digital severity) e = (rw e, rw e, rw e, tt)
  placed (Analog limits severities period) e =
      (rw e, rw e, rw e, (rw e, rw e, rw e, (rw e, rw e, rw e, (rw e, rw e, rw e, (rw e, rw e, rw e, (rw e, rw e, rw e, tt))))))

  pub log_is : from 0 (whole_bits s past ++ foldr (condition_bits (rules_of a) s past) [] (conditions_of a.kind)) ≡ alarm_log n a s past
  log_is = whole-log (conditions_of a.kind) (placed a.kind refl)

  -- of the state that the scans before it leave
  pub digital-log-is : {severity : ℕ} → a.kind ≡ Digital severity
      → from 0 (digital_events a s.reading s.word s.time (digital_from a past)) ≡ alarm_log n a s past
  digital-log-is k =
      ap (from 0)
      (digital-bits a (digital-required a k) s past
      ∙ ap (λ (r : Rules). whole_bits s past ++ condition_bits r s past In []) (sym (digital-rules a k))
      ∙ sym (ap (λ (cs : List Condition). whole_bits s past ++ foldr (condition_bits (rules_of a) s past) [] cs) (ap conditions_of k)))
      ∙ log_is

  pub analog-log-is : {limits : Limits} {severities : Severities} {period : ℕ} → a.kind ≡ Analog limits severities period
      → from 0 (analog_events reals (real_analog a) s.reading s.word s.time (analog_from reals (real_analog a) (ack_required a.kind a.flags) past))
      ≡ alarm_log n a s past
  analog-log-is k =
      ap (from 0)
      (analog-bits reals (real_analog a) (analog-required a k) s past
      ∙ ap (λ (r : Rules). whole_bits s past ++ foldr (condition_bits r s past) [] six) (sym (analog-rules a k))
      ∙ sym (ap (λ (cs : List Condition). whole_bits s past ++ foldr (condition_bits (rules_of a) s past) [] cs) (ap conditions_of k)))
      ∙ log_is
