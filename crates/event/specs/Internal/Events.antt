-- The events of one alarm in one scan, from its event bits, in document 01's order.
use Rattle.std.specs.Prelude.{ℕ, suc, ◌+◌, ◌-◌, ◌/◌, ◌%◌, Bool, cond, List, [], ◌∷◌, ltb, get_or}
use Rattle.wire.specs.Internal.Places.{first_condition}
use Rattle.settings.specs.declared.types.Kind.{Kind}
use Rattle.settings.specs.declared.types.Kind.TheVariants.{Digital, Analog}
use Rattle.settings.specs.Severity.{acting}
use Rattle.event.specs.Event.{Event}

-- bits 0 to 4 are kinds 1 to 5, the free ones behind them are never set, so that what is said of these does not matter; then come, three
-- to a condition, kinds 6, 7, 8
abbrev pub kind_at : ℕ → ℕ
kind_at k = cond (ltb k first_condition) (k + 1) (6 + (k - first_condition) % 3)

-- the condition of a bit from the first condition on
abbrev pub own_condition : Kind → ℕ → ℕ
own_condition (Digital severity) k = 0
own_condition (Analog g s period) k = 1 + (k - first_condition) / 3

-- the condition of a bit
abbrev pub condition_at : Kind → ℕ → ℕ
condition_at kind k = cond (ltb k first_condition) 7 (own_condition kind k)

-- the stored severity of a condition
abbrev pub stored_severity : Kind → ℕ → ℕ
stored_severity (Digital severity) c = severity
stored_severity (Analog g s period) c = get_or (s.hh ∷ s.h ∷ s.l ∷ s.ll ∷ s.rocpos ∷ s.rocneg ∷ []) (c - 1) 0

-- the acting severity of a condition's event, 0 for the whole alarm
abbrev pub acting_at : Kind → ℕ → ℕ
acting_at kind c = cond (ltb c 7) (acting (stored_severity kind c)) 0

abbrev pub event_at : ℕ → Kind → Bool → ℕ → ℕ → Event
event_at alarm kind suppressed time k =
    record {
      alarm = alarm;
      condition = condition_at kind k;
      kind = kind_at k;
      suppressed = suppressed;
      severity = acting_at kind (condition_at kind k);
      time = time;
    }

-- an event for each bit that is set, from bit k on
unfoldable pub events_from : ℕ → Kind → Bool → ℕ → ℕ → List Bool → List Event
events_from alarm kind suppressed time k [] = []
events_from alarm kind suppressed time k (b ∷ bs) =
    cond b (event_at alarm kind suppressed time k ∷ events_from alarm kind suppressed time (suc k) bs) (events_from alarm kind suppressed time (suc k) bs)
