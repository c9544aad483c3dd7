-- Events, and their records of 16 bytes.
use Rattle.std.specs.Prelude.{ℕ, Bool, cond, List, [], ◌∷◌, ◌++◌}
use Rattle.wire.specs.Number.{bytes}

pub record Event : Type 0 where
  pub alarm : ℕ
  -- 0 digital, 1 to 6 HH, H, L, LL, ROCPos, ROCNeg, 7 the whole alarm
  pub condition : ℕ
  -- 1 disabled, 2 enabled, 3 suppressed, 4 unsuppressed, 5 count reset, 6 acknowledged, 7 returned, 8 activated
  pub kind : ℕ
  -- whether the alarm is suppressed after the scan's commands
  pub suppressed : Bool
  pub severity : ℕ
  pub time : ℕ

-- how many bytes a record has
abbrev pub event_size : ℕ
event_size = 16

-- so many bytes suffice for the events of every scan
abbrev pub events_enough : ℕ
events_enough = 3840

-- alarm, condition, kind, suppressed, one byte each; acting severity in two, two zero bytes, the scan's time
unfoldable pub event_bytes : Event → List ℕ
event_bytes e = e.alarm ∷ e.condition ∷ e.kind ∷ cond e.suppressed 1 0 ∷ (bytes 2 e.severity ++ (0 ∷ 0 ∷ bytes 8 e.time))

unfoldable pub log_bytes : List Event → List ℕ
log_bytes [] = []
log_bytes (e ∷ es) = event_bytes e ++ log_bytes es
