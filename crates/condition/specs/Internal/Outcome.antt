-- What a scan makes of a condition, and of the modes of its alarm, as lists of bits.
use Rattle.std.specs.Prelude.{ℕ, Bool, ◌&&◌, List, [], ◌∷◌}
use Rattle.wire.specs.Bits.{bit}
use Rattle.condition.specs.Command.{acks}
use Rattle.settings.specs.Condition.{HH, H, L, LL, ROCPos, ROCNeg}
use Rattle.history.specs.Internal.Condition.{Told, acknowledges, returns, activates, alarm_after, unacked_after}

-- in alarm, unacknowledged, met in an enabled scan; then the events 6, 7, 8
abbrev pub outcome_bits : Told → Bool → Bool → List Bool
outcome_bits t alarm unacked =
    alarm_after t alarm ∷ unacked_after t alarm unacked ∷ (t.enabled && t.met) ∷ acknowledges t unacked ∷ returns t alarm ∷ activates t alarm ∷ []

-- of a condition that was in alarm and unacknowledged as the bits 0 and 1 of a digit say
abbrev pub outcome : ℕ → Told → List Bool
outcome digit t = outcome_bits t (bit digit 0) (bit digit 1)

-- which of the six conditions of an analog alarm a word acknowledges
unfoldable pub ack_bits : ℕ → ℕ → List Bool
ack_bits w p = acks w p HH ∷ acks w p H ∷ acks w p L ∷ acks w p LL ∷ acks w p ROCPos ∷ acks w p ROCNeg ∷ []
