-- `wire::bits::word_of`: the bits so far are the word so far. Assumes nothing.
use mathlib.Core.Path.{◌≡◌}
use Prim.Native.Nat.{◌<◌, ◌^◌}
use lib.ListN.{take}
use Rattle.wire.specs.Internal.Words.{word_of}
use Rattle.wire.proofs.bits.word_of.Given as goal

abbrev pub invariant-loop-place : goal.invariant-loop-place
invariant-loop-place g l = record {
  sees : l.word ≡ word_of (take l.place l.bit-items);
  fits : l.word < 2 ^ l.place;
}
