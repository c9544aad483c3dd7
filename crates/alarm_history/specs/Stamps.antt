-- Counts, stamps and elapsed runs, from the scans alone.
use Rattle.std.specs.Prelude.{ℕ, ◌-◌, min, List, ◌∷◌, ◌&&◌, cond}
use Rattle.settings.specs.Condition.{Condition}
use Rattle.history.specs.Past.{holds, row_start, latest}
use Rattle.history.specs.Demand.{activation, answer, return}
use Rattle.alarm_history.specs.Scans.{Scan, count_reset, last_time, enabled}
use Rattle.alarm_history.specs.Facts.{Rules, run, facts}

-- the count reset stamp
abbrev pub reset_stamp : List Scan → ℕ
reset_stamp scans = latest count_reset (λ s past. s.time) scans

module _ (r : Rules) where
  -- when the unbroken row of enabled scans began that met the condition itself
  abbrev pub own_start : Condition → Scan → List Scan → ℕ
  own_start c s past = row_start (λ x. x.time) (λ s past. enabled s past && r.met c s past) (s ∷ past)

  -- the alarm stamp, of the last activation
  abbrev pub alarm_stamp : Condition → List Scan → ℕ
  alarm_stamp c scans = latest (activation (facts r) c) (own_start c) scans

  -- the ack stamp: the last acknowledgement; without AckRequired it is the alarm stamp
  abbrev pub ack_stamp : Condition → List Scan → ℕ
  ack_stamp c scans = cond (facts r).required (latest (answer (facts r) c) (λ s past. s.time) scans) (alarm_stamp c scans)

  -- the return stamp
  abbrev pub return_stamp : Condition → List Scan → ℕ
  return_stamp c scans = latest (return (facts r) c) (λ s past. s.time) scans

  -- how long the run of a condition has lasted, capped at MinDuration; 0 without a run
  abbrev pub elapsed_in : Condition → List Scan → ℕ
  elapsed_in c scans = cond (holds (run r c) scans) (min r.duration (last_time scans - row_start (λ x. x.time) (run r c) scans)) 0
