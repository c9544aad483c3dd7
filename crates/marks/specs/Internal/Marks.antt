-- Counts and stamps of a bank's alarms, in words: of each alarm the count reset stamp, then of each condition in order count, alarm stamp, ack
-- stamp and return stamp.
use Rattle.std.specs.Prelude.{ℕ, zero, suc, ◌+◌, ◌*◌, Bool, List, [], ◌∷◌, get_or, set}
use Rattle.std.proofs.lemmas.List.Edits.{sets}
use Rattle.wire.specs.Bits.{bit}
use Rattle.wire.specs.Internal.Places.{reset_event, condition_bit}
use Rattle.condition.specs.Internal.Mark.{Marks, Turn, marks_after, time_stamp_after}
use Rattle.settings.specs.Alarm.{blank, ack_required}
use Rattle.settings.specs.declared.types.Alarm.{Alarm}

-- a condition's four words at an offset
abbrev pub marks_at : List ℕ → ℕ → Marks
marks_at xs at = record { count = get_or xs at 0; alarm = get_or xs (at + 1) 0; ack = get_or xs (at + 2) 0; return = get_or xs (at + 3) 0 }

abbrev pub marks_words : Marks → List ℕ
marks_words m = m.count ∷ m.alarm ∷ m.ack ∷ m.return ∷ []

-- the four words at an offset after a scan
unfoldable pub mark_condition : Turn → ℕ → List ℕ → List ℕ
mark_condition t at xs = sets xs at (marks_words (marks_after t (marks_at xs at)))

-- what the scan did to the condition at a place, from the starts of the conditions' rows after it and the alarm's event word
abbrev pub turn_at : Bool → List ℕ → ℕ → ℕ → ℕ → Turn
turn_at required starts word time c =
    record {
      reset = bit word reset_event;
      acknowledged = bit word (condition_bit c 0);
      returned = bit word (condition_bit c 1);
      activated = bit word (condition_bit c 2);
      required = required;
      start = get_or starts c 0;
      time = time;
    }

-- the six starts, in words from an offset on
abbrev pub starts_in : List ℕ → ℕ → List ℕ
starts_in ws from =
    get_or ws from 0 ∷ get_or ws (from + 1) 0 ∷ get_or ws (from + 2) 0 ∷ get_or ws (from + 3) 0 ∷ get_or ws (from + 4) 0 ∷ get_or ws (from + 5) 0 ∷ []

-- the same turn from the three bits of the condition alone
abbrev pub turn_by : Bool → ℕ → Bool → ℕ → ℕ → Turn
turn_by reset events required start time =
    record {
      reset = reset;
      acknowledged = bit events 0;
      returned = bit events 1;
      activated = bit events 2;
      required = required;
      start = start;
      time = time;
    }

-- the first n conditions of an alarm
unfoldable pub mark_conditions : Bool → List ℕ → ℕ → ℕ → ℕ → ℕ → List ℕ → List ℕ
mark_conditions required starts word time base zero xs = xs
mark_conditions required starts word time base (suc n) xs =
    mark_condition (turn_at required starts word time n) (base + 4 * n) (mark_conditions required starts word time base n xs)

-- an alarm's 25 words at an offset: the count reset stamp, then the conditions
unfoldable pub mark_alarm : Bool → List ℕ → ℕ → ℕ → ℕ → List ℕ → List ℕ
mark_alarm required starts word time at xs =
    mark_conditions required starts word time (at + 1) 6 (set xs at (time_stamp_after (bit word reset_event) time (get_or xs at 0)))

-- the first n alarms, from the starts of their conditions' rows after the scan and their event words
unfoldable pub mark_alarms : List Alarm → (ℕ → List ℕ) → List ℕ → ℕ → ℕ → List ℕ → List ℕ
mark_alarms alarms starts events time zero xs = xs
mark_alarms alarms starts events time (suc n) xs =
    mark_alarm (ack_required (get_or alarms n blank).kind (get_or alarms n blank).flags) (starts n) (get_or events n 0) time (25 * n)
    (mark_alarms alarms starts events time n xs)
