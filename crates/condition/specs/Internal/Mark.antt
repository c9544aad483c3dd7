-- Counts and stamps of a condition.
use Rattle.std.specs.Prelude.{ℕ, Bool, not, ◌&&◌, cond}
use Rattle.history.specs.Internal.Condition.{count_after}

-- the alarm stamp, set at activation to the time at which the row of scans that met the condition began
abbrev pub alarm_stamp_after : Bool → ℕ → ℕ → ℕ
alarm_stamp_after activated start old = cond activated start old

-- the ack stamp: the scan's time where it acknowledges; without AckRequired the alarm stamp at activation
abbrev pub ack_stamp_after : Bool → Bool → Bool → ℕ → ℕ → ℕ → ℕ
ack_stamp_after acknowledged activated required start time old = cond (activated && not required) start (cond acknowledged time old)

-- the return stamp, and the count reset stamp of an alarm
abbrev pub time_stamp_after : Bool → ℕ → ℕ → ℕ
time_stamp_after set time old = cond set time old

-- ---- what a condition keeps for the report alone

pub record Marks : Type 0 where
  pub count : ℕ
  -- the stamps of the last activation, acknowledgement and return
  pub alarm : ℕ
  pub ack : ℕ
  pub return : ℕ

-- what a scan did to a condition: it reset the counts, acknowledged, returned and activated it; the row of scans that met it began at `start`
pub record Turn : Type 0 where
  pub reset : Bool
  pub acknowledged : Bool
  pub returned : Bool
  pub activated : Bool
  -- AckRequired
  pub required : Bool
  pub start : ℕ
  pub time : ℕ

abbrev pub marks_after : Turn → Marks → Marks
marks_after t m =
    record {
      count = count_after t.reset t.activated m.count;
      alarm = alarm_stamp_after t.activated t.start m.alarm;
      ack = ack_stamp_after t.acknowledged t.activated t.required t.start t.time m.ack;
      return = time_stamp_after t.returned t.time m.return;
    }

abbrev pub no_marks : Marks
no_marks = record { count = 0; alarm = 0; ack = 0; return = 0 }
