-- Demand 3 of one condition, in words.
use Rattle.std.specs.Prelude.{ℕ, min, ◌≡◌, ◌⊎◌, List, Bool, true}
use Rattle.history.specs.Past.{FromLast, OfAll}
use Rattle.history.specs.Demand.{Facts, activation, InAlarm, Unacknowledged}

-- what is reported of a condition c after `scans`: in alarm, unacknowledged, and its count
pub record Demand3 {S C : Type 0} (f : Facts S C) (alarm unacked : Bool) (count : ℕ) (scans : List S) (c : C) : Type 0 where
  -- if it is reported in alarm, then some scan had it due and no later scan cleared it or left its alarm disabled
  pub in-alarm : alarm ≡ true → InAlarm f scans c
  -- and the other way round: if there is such a scan, it is reported in alarm
  pub in-alarm-only : InAlarm f scans c → alarm ≡ true
  -- if it is reported unacknowledged, then acknowledgement is required, some scan activated it, and no later scan acknowledged it or left its alarm disabled
  pub unanswered : unacked ≡ true → Unacknowledged f scans c
  -- and the other way round: if acknowledgement is required and there is such a scan, it is reported unacknowledged
  pub unanswered-only : Unacknowledged f scans c → unacked ≡ true
  -- its count is the smaller of 2,147,483,647 and the number of its activations from the last count reset on, that scan included, or in the
  -- whole list if there was none
  pub counted : (n : ℕ) × (count ≡ min 2147483647 n) × (FromLast f.reset (activation f c) scans n ⊎ OfAll f.reset (activation f c) scans n)
