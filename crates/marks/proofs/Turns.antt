-- A turn of the loop over an alarm's conditions, and of that over the alarms. Assumes nothing.
use mathlib.Core.Bool.{Bool}
use mathlib.Core.List.{List}
use mathlib.Core.Path.{◌≡◌, ap, ◌∙◌}
use Prim.Native.Nat.{ℕ, ◌+◌, ◌*◌, ◌/◌, ◌%◌, ◌^◌}
use native.Mathlib.Numerals.{add-one}
use native.Mathlib.Omega.{arith}
use lib.Dec.{eqb}
use lib.ListN.{get_or}
use lib.Pow.{shr-shr}
use Rattle.wire.specs.Bits.{bit}
use Rattle.wire.specs.Internal.Places.{condition_bit, from_condition}
use Rattle.settings.specs.Alarm.{blank, ack_required}
use Rattle.settings.specs.declared.types.Alarm.{Alarm}
use Rattle.marks.specs.Internal.Marks.{turn_by, mark_condition, mark_conditions, mark_alarm, mark_alarms}

-- a word without its lowest bits, and then without more of them
pub shift-more : (w a k m : ℕ) {rest : ℕ} → rest ≡ w / 2 ^ a → a + k ≡ m → rest / 2 ^ k ≡ w / 2 ^ m
shift-more w a k m e p = ap (λ (v : ℕ). v / 2 ^ k) e ∙ shr-shr w a k ∙ ap (λ (j : ℕ). w / 2 ^ j) p

pub bit-behind : (w a k m : ℕ) {rest : ℕ} → rest ≡ w / 2 ^ a → a + k ≡ m → bit rest k ≡ bit w m
bit-behind w a k m e p = ap (λ (v : ℕ). eqb (v % 2) 1) (shift-more w a k m e p)

-- the first n conditions are marked, and then the next
pub conditions-next : (required : Bool) (starts : List ℕ) (word time base n : ℕ) (xs : List ℕ) {rest start : ℕ} {marks : List ℕ}
    → rest ≡ from_condition n word → start ≡ get_or starts n 0 → marks ≡ mark_conditions required starts word time base n xs
    → mark_condition (turn_by (bit word 4) rest required start time) (base + 4 * n) marks
    ≡ mark_conditions required starts word time base (n + 1) xs
unfolding mark_conditions
conditions-next required starts word time base n xs e f g =
    rw (
      bit-behind word (condition_bit n 0) 0 (condition_bit n 0) e (omega arith),
      bit-behind word (condition_bit n 0) 1 (condition_bit n 1) e (omega arith),
      bit-behind word (condition_bit n 0) 2 (condition_bit n 2) e (omega arith),
      f,
      g,
      add-one n,
    )

-- the first n alarms are marked, and then the next
pub alarms-next : (alarms : List Alarm) (starts : ℕ → List ℕ) (events : List ℕ) (time n : ℕ) (xs : List ℕ) {required : Bool} {own : List ℕ} {marks : List ℕ}
    → required ≡ ack_required (get_or alarms n blank).kind (get_or alarms n blank).flags → own ≡ starts n
    → marks ≡ mark_alarms alarms starts events time n xs
    → mark_alarm required own (get_or events n 0) time (25 * n) marks ≡ mark_alarms alarms starts events time (n + 1) xs
unfolding mark_alarms
alarms-next alarms starts events time n xs e f g = rw (e, f, g, add-one n)
