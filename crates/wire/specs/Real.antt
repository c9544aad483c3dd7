-- REALs: by bit pattern in four bytes, and the magnitude that document 01 allows.
use Rattle.std.specs.Prelude.{ℕ, List, Bool, ◌&&◌, Float}
use Rattle.std.specs.Float.{binary32}
use Rattle.std.specs.Float.Ieee.{of_bits, neg, le}
use Rattle.wire.specs.Number.{number}

-- the REAL whose bit pattern stands at offset `at`
abbrev pub real_at : List ℕ → ℕ → Float
real_at s at = of_bits binary32 (number s at 4)

abbrev pub zero_real : Float
zero_real = of_bits binary32 0

-- the largest magnitude, the REAL nearest 10^15: 999,999,986,991,104
unfoldable pub largest : Float
largest = of_bits binary32 0x58635FA9

-- finite, and of magnitude at most `largest`
unfoldable pub bounded : Float → Bool
bounded x = le (neg largest) x && le x largest
