-- `event::write::put_events` meets its contract: the invariant: writing the bits that are left gives what writing all gives, and room is left
-- for them. Assumes nothing.
use mathlib.Core.Path.{◌≡◌}
use Prim.Native.Nat.{◌+◌, ◌^◌, ◌<◌}
use lib.ListN.{length}
use lib.Seq.{sets}
use Rattle.wire.specs.Internal.Places.{word_bits}
use Rattle.event.specs.Internal.Source.{source_log}
use Rattle.event.proofs.write.put_events.Given as goal

abbrev pub invariant-loop-rest : goal.invariant-loop-rest
invariant-loop-rest l =
    record {
      same_length : length l.out ≡ length l.initial.out;
      bits : l.rest < 2 ^ word_bits;
      room : l.at + length (source_log l.source word_bits 0 l.rest) ≡ l.start + length (source_log l.source word_bits 0 l.events);
      left : sets l.out l.at (source_log l.source word_bits 0 l.rest) ≡ sets l.initial.out l.start (source_log l.source word_bits 0 l.events);
    }

abbrev pub decreases-loop-rest : goal.decreases-loop-rest
decreases-loop-rest l = l.rest
