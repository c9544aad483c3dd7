-- A scan without events marks nothing. Assumes nothing.
use mathlib.Core.Bool.{Bool, false}
use mathlib.Core.List.{List}
use mathlib.Core.Path.{◌≡◌, refl, ◌∙◌}
use Prim.Native.Nat.{ℕ, zero, suc, ◌*◌, ◌/◌, ◌%◌, ◌<◌}
use native.Mathlib.Nat.{zero-div}
use native.Mathlib.Omega.{arith}
use native.Mathlib.Numerals.{add-one, add-two, add-three}
use lib.ListN.{get_or, set}
use lib.Seq.{set-get_or}
use Rattle.wire.specs.Bits.{bit}
use Rattle.wire.proofs.WordLaws.{bit-zero}
use Rattle.settings.specs.declared.types.Alarm.{Alarm}
use Rattle.marks.specs.Internal.Marks.{turn_by, mark_condition, mark_conditions, mark_alarm, mark_alarms}

-- four words stored where they stand
words-still : (xs : List ℕ) (at : ℕ)
    → set (set (set (set xs at (get_or xs at 0)) (suc at) (get_or xs (suc at) 0)) (suc (suc at)) (get_or xs (suc (suc at)) 0)) (suc (suc (suc at)))
    (get_or xs (suc (suc (suc at))) 0)
    ≡ xs
words-still xs at = rw (set-get_or, set-get_or, set-get_or, set-get_or)

pub condition-still : (required : Bool) (start time at : ℕ) (xs : List ℕ)
    → mark_condition
    (record { reset = false; acknowledged = false; returned = false; activated = false; required = required; start = start; time = time }) at xs
    ≡ xs
unfolding mark_condition
condition-still required start time at xs = rw (add-one at, add-two at, add-three at) (words-still xs at)

even : (w q : ℕ) → w ≡ 2 * q → w % 2 ≡ 0
even w q e = omega arith

-- without events of its own and without a reset a condition keeps its words
pub turn-still : (required : Bool) (start time at events : ℕ) (xs : List ℕ) {reset : Bool} → reset ≡ false → events % 8 ≡ 0
    → mark_condition (turn_by reset events required start time) at xs ≡ xs
turn-still required start time at events xs r h =
    let a : events % 2 ≡ 0 = even events (4 * (events / 8)) (omega arith) in
    let b : events / 2 % 2 ≡ 0 = even (events / 2) (2 * (events / 8)) (omega arith) in
    let c : events / 4 % 2 ≡ 0 = even (events / 4) (events / 8) (omega arith) in
    rw (r, bit-zero events, a, b, c) (condition-still required start time at xs)

pub bit-none : (k : ℕ) → bit 0 k ≡ false
bit-none k = rw zero-div

conditions-still : (required : Bool) (starts : List ℕ) (time base n : ℕ) (xs : List ℕ) → mark_conditions required starts 0 time base n xs ≡ xs
unfolding mark_conditions
conditions-still required starts time base zero xs = refl
conditions-still required starts time base (suc n) xs = simp (bit-none, condition-still) (conditions-still required starts time base n xs)

pub alarm-still : (required : Bool) (starts : List ℕ) (time at : ℕ) (xs : List ℕ) {word : ℕ} → word ≡ 0 → mark_alarm required starts word time at xs ≡ xs
unfolding mark_alarm
alarm-still required starts time at xs e = rw e (simp (conditions-still, set-get_or))

pub alarms-still : (alarms : List Alarm) (starts : ℕ → List ℕ) (events : List ℕ) (time n : ℕ) (xs : List ℕ)
    → ((i : ℕ) → i < n → get_or events i 0 ≡ 0) → mark_alarms alarms starts events time n xs ≡ xs
unfolding mark_alarms
alarms-still alarms starts events time zero xs h = refl
alarms-still alarms starts events time (suc n) xs h =
    alarm-still _ _ time (25 * n) _ (h n (omega arith)) ∙ alarms-still alarms starts events time n xs (λ i l. h i (omega arith))
