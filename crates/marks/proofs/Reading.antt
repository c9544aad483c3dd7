-- What stands in the words after a scan: each alarm's from its own words before it. Assumes nothing.
use mathlib.Core.Bool.{Bool}
use mathlib.Core.List.{List}
use mathlib.Core.Path.{◌≡◌, refl, ap, ◌∙◌}
use Prim.Native.Nat.{ℕ, zero, suc, ◌+◌, ◌*◌, ◌≤◌, ◌<◌}
use native.Mathlib.Nat.{not-suc-le-zero}
use native.Mathlib.Omega.{arith}
use lib.ListN.{length, get_or, set, length-set}
use lib.Seq.{get_or-set_same, get_or-set_other, sets}
use Rattle.wire.specs.Bits.{bit}
use Rattle.wire.proofs.Laws.{below}
use Rattle.condition.specs.Internal.Mark.{Marks, marks_after, time_stamp_after}
use Rattle.settings.specs.Alarm.{blank, ack_required}
use Rattle.settings.specs.declared.types.Alarm.{Alarm}
use Rattle.marks.specs.Internal.Marks.{marks_at, marks_words, turn_at, mark_condition, mark_conditions, mark_alarm, mark_alarms}
use Rattle.marks.proofs.Lengths.{length-conditions}
pub use Rattle.marks.proofs.Lengths.{marks-length}
use Rattle.marks.proofs.Runs.{sets-inside}
use Rattle.marks.proofs.Outside.{after, condition-outside, conditions-outside, alarm-outside, alarms-outside}

-- words that are stored are read
words-read : (m : Marks) (xs : List ℕ) (at : ℕ) → at + 4 ≤ length xs → marks_at (sets xs at (marks_words m)) at ≡ m
words-read m xs at h =
    λ i. record {
      count = sets-inside (marks_words m) xs at at 0 (omega arith) (omega arith) h i;
      alarm = sets-inside (marks_words m) xs at (at + 1) 1 refl (omega arith) h i;
      ack = sets-inside (marks_words m) xs at (at + 2) 2 refl (omega arith) h i;
      return = sets-inside (marks_words m) xs at (at + 3) 3 refl (omega arith) h i;
    }

-- four words that are the same are read the same
marks-same : (xs ys : List ℕ) (at : ℕ) → ((j : ℕ) → at ≤ j → j < at + 4 → get_or xs j 0 ≡ get_or ys j 0) → marks_at xs at ≡ marks_at ys at
marks-same xs ys at h =
    λ i. record {
      count = h at (omega arith) (omega arith) i;
      alarm = h (at + 1) (omega arith) (omega arith) i;
      ack = h (at + 2) (omega arith) (omega arith) i;
      return = h (at + 3) (omega arith) (omega arith) i;
    }

-- ---- the conditions of an alarm

module _ (required : Bool) (starts : List ℕ) (word time : ℕ) where
  -- the last of n + 1 conditions
  condition-read : (base n : ℕ) (xs : List ℕ) → base + 4 * suc n ≤ length xs
      → marks_at (mark_conditions required starts word time base (suc n) xs) (base + 4 * n) ≡ after required starts word time n (marks_at xs (base + 4 * n))
  unfolding mark_conditions mark_condition
  condition-read base n xs h =
      let ys = mark_conditions required starts word time base n xs in
      let len = length-conditions required starts word time base n xs in
      words-read (after required starts word time n (marks_at ys (base + 4 * n))) ys (base + 4 * n) (omega arith)
      ∙ ap (after required starts word time n)
      (marks-same ys xs (base + 4 * n) (λ j l m. conditions-outside required starts word time base n j xs (λ k p e. omega arith)))

  conditions-read : (base n c : ℕ) (xs : List ℕ) → c < n → base + 4 * n ≤ length xs
      → marks_at (mark_conditions required starts word time base n xs) (base + 4 * c) ≡ after required starts word time c (marks_at xs (base + 4 * c))
  conditions-read base zero c xs l h = absurd (not-suc-le-zero l)
  conditions-read base (suc n) c xs l h =
      let ys = mark_conditions required starts word time base n xs in
      let zs = mark_conditions required starts word time base (suc n) xs in
      below (λ (k : ℕ). marks_at zs (base + 4 * k) ≡ after required starts word time k (marks_at xs (base + 4 * k))) l (condition-read base n xs h)
      (λ m.
      marks-same zs ys (base + 4 * c) (λ j p q. condition-outside required starts word time base n j xs (λ k r e. omega arith))
      ∙ conditions-read base n c xs m (omega arith))

  alarm-read : (at c : ℕ) (xs : List ℕ) → c < 6 → at + 25 ≤ length xs
      → marks_at (mark_alarm required starts word time at xs) (at + 1 + 4 * c) ≡ after required starts word time c (marks_at xs (at + 1 + 4 * c))
  unfolding mark_alarm
  alarm-read at c xs l h =
      let v = time_stamp_after (bit word 4) time (get_or xs at 0) in
      conditions-read (at + 1) 6 c (set xs at v) l (rw length-set (omega arith))
      ∙ ap (after required starts word time c) (marks-same (set xs at v) xs (at + 1 + 4 * c) (λ j p q. get_or-set_other xs at j v 0 (λ e. omega arith)))

  reset-stored : (at : ℕ) (xs : List ℕ) → at + 25 ≤ length xs
      → get_or (mark_alarm required starts word time at xs) at 0 ≡ time_stamp_after (bit word 4) time (get_or xs at 0)
  unfolding mark_alarm
  reset-stored at xs h =
      let v = time_stamp_after (bit word 4) time (get_or xs at 0) in
      conditions-outside required starts word time (at + 1) 6 at (set xs at v) (λ k l e. omega arith) ∙ get_or-set_same xs at v 0 (omega arith)

-- ---- the alarms

module _ (alarms : List Alarm) (starts : ℕ → List ℕ) (events : List ℕ) (time : ℕ) where
  abbrev required : ℕ → Bool
  required p = ack_required (get_or alarms p blank).kind (get_or alarms p blank).flags

  -- marking the last of n + 1 alarms leaves those before it
  alarm-before : (n j : ℕ) (xs : List ℕ) → j < 25 * n
      → get_or (mark_alarms alarms starts events time (suc n) xs) j 0 ≡ get_or (mark_alarms alarms starts events time n xs) j 0
  unfolding mark_alarms
  alarm-before n j xs h =
      alarm-outside (required n) (starts n) (get_or events n 0) time (25 * n) j (mark_alarms alarms starts events time n xs) (λ k l e. omega arith)

  -- the last of n + 1 alarms
  alarm-marks : (n c : ℕ) (xs : List ℕ) → c < 6 → 25 * suc n ≤ length xs
      → marks_at (mark_alarms alarms starts events time (suc n) xs) (25 * n + 1 + 4 * c)
      ≡ after (required n) (starts n) (get_or events n 0) time c (marks_at xs (25 * n + 1 + 4 * c))
  unfolding mark_alarms
  alarm-marks n c xs l h =
      let ys = mark_alarms alarms starts events time n xs in
      let len = marks-length alarms starts events time n xs in
      alarm-read (required n) (starts n) (get_or events n 0) time (25 * n) c ys l (omega arith)
      ∙ ap (after (required n) (starts n) (get_or events n 0) time c)
      (marks-same ys xs (25 * n + 1 + 4 * c) (λ j p q. alarms-outside alarms starts events time n j xs (omega arith)))

  alarm-reset : (n : ℕ) (xs : List ℕ) → 25 * suc n ≤ length xs
      → get_or (mark_alarms alarms starts events time (suc n) xs) (25 * n) 0 ≡ time_stamp_after (bit (get_or events n 0) 4) time (get_or xs (25 * n) 0)
  unfolding mark_alarms
  alarm-reset n xs h =
      let ys = mark_alarms alarms starts events time n xs in
      let len = marks-length alarms starts events time n xs in
      reset-stored (required n) (starts n) (get_or events n 0) time (25 * n) ys (omega arith)
      ∙ ap (time_stamp_after (bit (get_or events n 0) 4) time) (alarms-outside alarms starts events time n (25 * n) xs (omega arith))

  -- a condition's words after the scan, from those before it
  pub mark-read : (n p c : ℕ) (xs : List ℕ) → p < n → c < 6 → 25 * n ≤ length xs
      → marks_at (mark_alarms alarms starts events time n xs) (25 * p + 1 + 4 * c)
      ≡ marks_after (turn_at (ack_required (get_or alarms p blank).kind (get_or alarms p blank).flags) (starts p) (get_or events p 0) time c)
      (marks_at xs (25 * p + 1 + 4 * c))
  mark-read zero p c xs l m h = absurd (not-suc-le-zero l)
  mark-read (suc n) p c xs l m h =
      let ys = mark_alarms alarms starts events time n xs in
      let zs = mark_alarms alarms starts events time (suc n) xs in
      below (λ (k : ℕ). marks_at zs (25 * k + 1 + 4 * c) ≡ after (required k) (starts k) (get_or events k 0) time c (marks_at xs (25 * k + 1 + 4 * c))) l
      (alarm-marks n c xs m h)
      (λ b. marks-same zs ys (25 * p + 1 + 4 * c) (λ j _ q. alarm-before n j xs (omega arith)) ∙ mark-read n p c xs b m (omega arith))

  -- an alarm's count reset stamp after the scan, from that before it
  pub reset-read : (n p : ℕ) (xs : List ℕ) → p < n → 25 * n ≤ length xs
      → get_or (mark_alarms alarms starts events time n xs) (25 * p) 0 ≡ time_stamp_after (bit (get_or events p 0) 4) time (get_or xs (25 * p) 0)
  reset-read zero p xs l h = absurd (not-suc-le-zero l)
  reset-read (suc n) p xs l h =
      below
      (λ (k : ℕ). get_or (mark_alarms alarms starts events time (suc n) xs) (25 * k) 0
      ≡ time_stamp_after (bit (get_or events k 0) 4) time (get_or xs (25 * k) 0)) l
      (alarm-reset n xs h)
      (λ b. alarm-before n (25 * p) xs (omega arith) ∙ reset-read n p xs b (omega arith))
