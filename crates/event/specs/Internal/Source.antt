-- The events of an alarm that are written, and their bytes.
use Rattle.std.specs.Prelude.{ℕ, List}
use Rattle.layout.specs.Internal.Words.{kind_in}
use Rattle.event.specs.declared.source.Source.{Source}
use Rattle.event.specs.Event.{Event, log_bytes}
use Rattle.event.specs.Internal.Events.{event_at}
use Rattle.event.specs.Internal.Bits.{events_of}

-- at bit k of an event word
abbrev pub source_event : Source → ℕ → Event
source_event s k = event_at s.number (kind_in s.form s.settings.now 0) s.suppressed s.time k

-- the bytes of n bits of an event word from bit k on
abbrev pub source_log : Source → ℕ → ℕ → ℕ → List ℕ
source_log s n k word = log_bytes (events_of s.number (kind_in s.form s.settings.now 0) s.suppressed s.time n k word)
