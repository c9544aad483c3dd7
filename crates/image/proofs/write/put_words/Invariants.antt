-- `image::write::put_words` meets its contract: the invariant: writing the numbers that are left gives what writing all gives. Assumes nothing.
use mathlib.Core.Path.{◌≡◌}
use Prim.Native.Nat.{◌+◌, ◌*◌}
use lib.ListN.{length, drop}
use lib.Seq.{sets}
use Rattle.wire.specs.Internal.Words.{words}
use Rattle.image.proofs.write.put_words.Given as goal

abbrev pub invariant-loop-i : goal.invariant-loop-i
invariant-loop-i l =
    record {
      same_length : length l.out ≡ length l.initial.out;
      left : sets l.out (l.at + 4 * l.i) (words (drop l.i l.numbers)) ≡ sets l.initial.out l.at (words l.numbers);
    }
