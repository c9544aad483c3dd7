-- The kinds of events, as code has them.
use Rattle.std.specs.Prelude.{ℕ}
use Rattle.event.specs.declared.kind.EventKind.{EventKind}
use Rattle.event.specs.declared.kind.EventKind.TheVariants.{Disabled, Enabled, Suppressed, Unsuppressed, CountReset, Acknowledged, Returned, Activated}

-- the number of a kind in a record
abbrev pub kind_number : EventKind → ℕ
kind_number Disabled = 1
kind_number Enabled = 2
kind_number Suppressed = 3
kind_number Unsuppressed = 4
kind_number CountReset = 5
kind_number Acknowledged = 6
kind_number Returned = 7
kind_number Activated = 8
