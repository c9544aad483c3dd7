-- `layout::block::put_alarms` meets its contract: the invariant: writing the alarms that are left gives what writing all gives, and the words say
-- those in front. Assumes nothing.
use mathlib.Core.Path.{◌≡◌}
use lib.Seq.{sets}
use Rattle.layout.specs.Internal.Block.{alarm_at, alarms_words, Says}
use Rattle.layout.proofs.Blocks.{from}
use Rattle.layout.proofs.block.put_alarms.Given as goal

abbrev pub invariant-loop-index : goal.invariant-loop-index
invariant-loop-index l =
    record {
      left : sets l.words (alarm_at l.index) (from l.fn.alarms l.index) ≡ sets l.initial.words 4 (alarms_words l.fn.alarms);
      says : Says l.fn.alarms l.index l.words;
    }
