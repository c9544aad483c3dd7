-- `wire::bits::spread_of`: the bits so far are the word so far. Assumes nothing.
use mathlib.Core.Path.{◌≡◌}
use Prim.Native.Nat.{◌<◌, ◌^◌, ◌*◌, ◌-◌}
use lib.ListN.{take}
use Rattle.wire.specs.Internal.Words.{word_of, spread}
use Rattle.wire.proofs.bits.spread_of.Given as goal

abbrev pub invariant-loop-place : goal.invariant-loop-place
invariant-loop-place g l = record {
  sees : l.word ≡ word_of (spread (take l.place l.bit-items));
  fits : l.word < 2 ^ (3 * l.place - 2);
}
