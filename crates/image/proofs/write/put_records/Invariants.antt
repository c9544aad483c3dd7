-- `image::write::put_records` meets its contract: the invariant: writing the alarms that are left gives what writing all gives, and room is left
-- for them. Assumes nothing.
use mathlib.Core.Path.{◌≡◌}
use Prim.Native.Nat.{◌+◌}
use lib.ListN.{length}
use lib.Seq.{sets, slice}
use Rattle.image.specs.Internal.Write.{records_bytes, read_as}
use Rattle.image.proofs.write.put_records.Given as goal

abbrev pub invariant-loop-index : goal.invariant-loop-index
invariant-loop-index l =
    let alarms = read_as l.form l.words in
    record {
      same_length : length l.out ≡ length l.initial.out;
      room : l.at + length (records_bytes l.form (slice l.index l.end alarms)) ≡ l.start + length (records_bytes l.form (slice l.first l.end alarms));
      left : sets l.out l.at (records_bytes l.form (slice l.index l.end alarms))
          ≡ sets l.initial.out l.start (records_bytes l.form (slice l.first l.end alarms));
    }
