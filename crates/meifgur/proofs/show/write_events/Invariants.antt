-- The lines of the records before an index are written.
use Rattle.std.specs.Prelude.{take, flat_map}
use Rattle.std.specs.Io.KnownBytes.{Appends}
use Rattle.meifgur.specs.Internal.Show.{event_line}
use Rattle.meifgur.proofs.show.write_events.Given as goal

abbrev pub invariant-loop-record : goal.invariant-loop-record
invariant-loop-record g l =
    Appends (g.W.Write.contents l.initial.output) (g.W.Write.contents l.output) (flat_map event_line (take l.record-index l.records))
