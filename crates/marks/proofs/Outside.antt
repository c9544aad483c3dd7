-- Words outside of those that are marked stay. Assumes nothing.
use mathlib.Core.Bool.{Bool}
use mathlib.Core.List.{List}
use mathlib.Core.Path.{◌≡◌, refl, ◌∙◌}
use Prim.Native.Nat.{ℕ, zero, suc, ◌+◌, ◌*◌, ◌≤◌}
use native.Mathlib.Omega.{arith}
use lib.ListN.{get_or, set}
use lib.Seq.{get_or-set_other}
use Rattle.wire.specs.Bits.{bit}
use Rattle.condition.specs.Internal.Mark.{Marks, marks_after, time_stamp_after}
use Rattle.settings.specs.Alarm.{blank, ack_required}
use Rattle.settings.specs.declared.types.Alarm.{Alarm}
use Rattle.marks.specs.Internal.Marks.{marks_at, marks_words, turn_at, mark_condition, mark_conditions, mark_alarm, mark_alarms}
use Rattle.marks.proofs.Runs.{Outside, sets-outside}

module _ (required : Bool) (starts : List ℕ) (word time : ℕ) where
  -- a condition's words after the scan
  abbrev pub after : ℕ → Marks → Marks
  after c m = marks_after (turn_at required starts word time c) m

  -- the last of n + 1 conditions alone
  pub condition-outside : (base n j : ℕ) (xs : List ℕ) → Outside (base + 4 * n) 4 j
      → get_or (mark_conditions required starts word time base (suc n) xs) j 0 ≡ get_or (mark_conditions required starts word time base n xs) j 0
  unfolding mark_conditions mark_condition
  condition-outside base n j xs h =
      let ys = mark_conditions required starts word time base n xs in
      sets-outside (marks_words (after n (marks_at ys (base + 4 * n)))) ys (base + 4 * n) j h

  pub conditions-outside : (base n j : ℕ) (xs : List ℕ) → Outside base (4 * n) j
      → get_or (mark_conditions required starts word time base n xs) j 0 ≡ get_or xs j 0
  unfolding mark_conditions
  conditions-outside base zero j xs h = refl
  conditions-outside base (suc n) j xs h =
      condition-outside base n j xs (λ k l e. h (4 * n + k) (omega arith) (omega arith)) ∙ conditions-outside base n j xs (λ k l. h k (omega arith))

  pub alarm-outside : (at j : ℕ) (xs : List ℕ) → Outside at 25 j → get_or (mark_alarm required starts word time at xs) j 0 ≡ get_or xs j 0
  unfolding mark_alarm
  alarm-outside at j xs h =
      let v = time_stamp_after (bit word 4) time (get_or xs at 0) in
      conditions-outside (at + 1) 6 j (set xs at v) (λ k l e. h (1 + k) (omega arith) (omega arith))
      ∙ get_or-set_other xs at j v 0 (λ e. h 0 (omega arith) (omega arith))

pub alarms-outside : (alarms : List Alarm) (starts : ℕ → List ℕ) (events : List ℕ) (time n j : ℕ) (xs : List ℕ) → 25 * n ≤ j
    → get_or (mark_alarms alarms starts events time n xs) j 0 ≡ get_or xs j 0
unfolding mark_alarms
alarms-outside alarms starts events time zero j xs h = refl
alarms-outside alarms starts events time (suc n) j xs h =
    alarm-outside (ack_required (get_or alarms n blank).kind (get_or alarms n blank).flags) (starts n) (get_or events n 0) time (25 * n) j
    (mark_alarms alarms starts events time n xs) (λ k l e. omega arith)
    ∙ alarms-outside alarms starts events time n j xs (omega arith)
