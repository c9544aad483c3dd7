-- K5 and K6 on one condition, and a count reset in the scan that activates: by the step and by the descriptions. Assumes nothing.
use Prim.Native.Nat.{ℕ}
use mathlib.Core.Path.{◌≡◌, refl}
use mathlib.Core.List.{List, [], ◌∷◌}
use mathlib.Core.Bool.{Bool, true, false, not, ◌&&◌}
use Rattle.history.specs.Past.{holds, since, count_from}
use Rattle.history.specs.Demand.{Facts, in_alarm, unacknowledged, count}
use Rattle.history.specs.Internal.Condition.{Told, Kept, kept_after, kept}

-- ---- one scan

-- a scan that activates, whether it frees or acknowledges or not
abbrev activating : Bool → Bool → Told
activating frees ack = record { enabled = true; met = true; frees = frees; ready = true; ack = ack; required = true }

-- K5: it leaves the condition unacknowledged, though it acknowledges, and also where the last activation was not yet acknowledged
k5-scan : (frees unacked : Bool) (n : ℕ) → (kept_after (activating frees true) false (record { alarm = false; unacked = unacked; count = n })).unacked ≡ true
k5-scan frees unacked n = refl

-- a count reset in it leaves the count 1
reset-scan : (frees ack unacked : Bool) (n : ℕ)
    → kept_after (activating frees ack) true (record { alarm = false; unacked = unacked; count = n }) ≡ record { alarm = true; unacked = true; count = 1 }
reset-scan frees ack unacked n = refl

-- ---- lists of scans

-- a scan: the condition is met, ProgAck is set, the counts are reset
record Scan : Type 0 where
  met : Bool
  ack : Bool
  reset : Bool

-- ProgAck acts where the scan before had it clear
abbrev facts : Facts Scan Unit
facts =
    record {
      enabled = λ s past. true;
      met = λ c s past. s.met;
      cleared = λ c s past. not s.met;
      lasted = λ c s past. true;
      beside = λ c before. false;
      rate = λ c. false;
      ack = λ c s past. s.ack && not (holds (λ s past. s.ack) past);
      reset = λ s past. s.reset;
      required = true;
    }

abbrev scan : Bool → Bool → Bool → Scan
scan met ack reset = record { met = met; ack = ack; reset = reset }

-- what the step keeps is this, and the descriptions say the same
record Agrees (scans : List Scan) (k : Kept) : Type 0 where
  step : kept facts (λ c s past. true) scans tt ≡ k
  alarm : in_alarm facts scans tt ≡ k.alarm
  unacked : unacknowledged facts scans tt ≡ k.unacked
  count : count facts scans tt ≡ k.count

-- K5
k5 : Agrees (scan true true false ∷ []) (record { alarm = true; unacked = true; count = 1 })
unfolding kept in_alarm since count_from
k5 = record { step = refl; alarm = refl; unacked = refl; count = refl }

-- K6: ProgAck held set from the scan before, in the scan that activates and in the next one
k6 : Agrees (scan true true false ∷ scan true true false ∷ scan false true false ∷ []) (record { alarm = true; unacked = true; count = 1 })
unfolding kept in_alarm since count_from
k6 = record { step = refl; alarm = refl; unacked = refl; count = refl }

-- set anew it acknowledges
k6-anew : Agrees (scan true true false ∷ scan true false false ∷ scan true true false ∷ scan false true false ∷ [])
    (record { alarm = true; unacked = false; count = 1 })
unfolding kept in_alarm since count_from
k6-anew = record { step = refl; alarm = refl; unacked = refl; count = refl }

-- two activations, the second in a scan that resets the count
reset-then : Agrees (scan true false true ∷ scan false false false ∷ scan true false false ∷ []) (record { alarm = true; unacked = true; count = 1 })
unfolding kept in_alarm since count_from
reset-then = record { step = refl; alarm = refl; unacked = refl; count = refl }
