-- Marking changes no length. Assumes nothing.
use mathlib.Core.Bool.{Bool}
use mathlib.Core.List.{List}
use mathlib.Core.Path.{◌≡◌, refl}
use Prim.Native.Nat.{ℕ, zero, suc}
use lib.ListN.{length, length-set}
use Rattle.condition.specs.Internal.Mark.{Turn}
use Rattle.settings.specs.declared.types.Alarm.{Alarm}
use Rattle.marks.specs.Internal.Marks.{mark_condition, mark_conditions, mark_alarm, mark_alarms}

pub length-condition : (t : Turn) (at : ℕ) (xs : List ℕ) → length (mark_condition t at xs) ≡ length xs
unfolding mark_condition
length-condition t at xs = simp length-set

pub length-conditions : (required : Bool) (starts : List ℕ) (word time base n : ℕ) (xs : List ℕ)
    → length (mark_conditions required starts word time base n xs) ≡ length xs
unfolding mark_conditions
length-conditions required starts word time base zero xs = refl
length-conditions required starts word time base (suc n) xs = simp length-condition (length-conditions required starts word time base n xs)

pub length-alarm : (required : Bool) (starts : List ℕ) (word time at : ℕ) (xs : List ℕ) → length (mark_alarm required starts word time at xs) ≡ length xs
unfolding mark_alarm
length-alarm required starts word time at xs = simp (length-conditions, length-set)

pub marks-length : (alarms : List Alarm) (starts : ℕ → List ℕ) (events : List ℕ) (time n : ℕ) (xs : List ℕ)
    → length (mark_alarms alarms starts events time n xs) ≡ length xs
unfolding mark_alarms
marks-length alarms starts events time zero xs = refl
marks-length alarms starts events time (suc n) xs = simp length-alarm (marks-length alarms starts events time n xs)
