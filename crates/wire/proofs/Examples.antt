-- The definitions, run on written-out numbers. Assumes nothing.
use mathlib.Core.Path.{◌≡◌, refl}
use mathlib.Core.List.{[], ◌∷◌}
use mathlib.Core.Bool.{true, false}
use Prim.Native.Nat.{◌*◌, ◌^◌}
use lib.IntN.{pos}
use lib.Ieee.{fin, binary32, of_bits, neg, lt, eq, le}
use Rattle.wire.specs.Number.{number, value, bytes}
use Rattle.wire.specs.Real.{largest, bounded}

little_endian : number (0xFF ∷ 0xBC ∷ 0x02 ∷ 0x00 ∷ 0x00 ∷ []) 1 4 ≡ 700
unfolding value
little_endian = refl

seven-hundred : bytes 4 700 ≡ 0xBC ∷ 0x02 ∷ 0x00 ∷ 0x00 ∷ []
unfolding bytes
seven-hundred = refl

-- the bound is 999,999,986,991,104
bound : largest ≡ fin false 14901161 (pos 26)
unfolding largest of_bits
bound = refl

bound-value : 14901161 * 2 ^ 26 ≡ 999999986991104
bound-value = refl

-- the bound itself is within it, on both sides; the next REAL, an infinity and a NaN are not
within : bounded (of_bits binary32 0xD8635FA9) ≡ true
unfolding bounded largest of_bits le lt eq neg
within = refl

next : bounded (of_bits binary32 0x58635FAA) ≡ false
unfolding bounded largest of_bits le lt eq neg
next = refl

infinity : bounded (of_bits binary32 0x7F800000) ≡ false
unfolding bounded largest of_bits le lt eq neg
infinity = refl

not-a-number : bounded (of_bits binary32 0x7FC00000) ≡ false
unfolding bounded largest of_bits le lt eq neg
not-a-number = refl
