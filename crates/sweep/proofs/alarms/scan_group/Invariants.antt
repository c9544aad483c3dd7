-- `sweep::alarms::scan_group` meets its contract: the invariant: the alarms before this one are stepped, logged and marked, and this one's
-- part begins here. Assumes nothing.
use mathlib.Core.Path.{◌≡◌}
use Prim.Native.Nat.{◌+◌, ◌*◌}
use lib.ListN.{length}
use lib.Seq.{sets}
use Rattle.layout.specs.Internal.Block.{counts_in}
use Rattle.scan_record.specs.Part.{offset_of}
use Rattle.scan_record.specs.Internal.Size.{entry_size}
use Rattle.bank.specs.Internal.Blocks.{SameWords}
use Rattle.bank.specs.Internal.Blocks.{kept_words}
use Rattle.sweep.specs.Internal.Sweep.{stepped_from, marked_from, log_from}
use Rattle.sweep.proofs.alarms.scan_group.Given as goal

abbrev pub invariant-loop-n : goal.invariant-loop-n
invariant-loop-n l =
    let w = kept_words l.scan.settings.now l.initial.kept in
    let g = l.group in
    let rec = l.group.bytes.now in
    record {
      here : l.at ≡ offset_of (counts_in l.scan.settings.now) (g.first + l.n);
      parts : l.at ≡ g.at + entry_size g.form * l.n;
      written : l.used ≡ l.start + length (log_from w rec g.first l.n);
      same : SameWords l.initial.kept l.kept;
      stepped : l.kept.states.now ≡ stepped_from w rec g.first l.n;
      marked : l.kept.marks.now ≡ marked_from w rec g.first l.n;
      logged : l.out ≡ sets l.initial.out l.start (log_from w rec g.first l.n);
    }
