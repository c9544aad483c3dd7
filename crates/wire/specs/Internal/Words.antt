-- Words made of bits, and bytes made of words.
use Rattle.std.specs.Prelude.{ℕ, zero, suc, ◌+◌, ◌*◌, Bool, false, cond, List, [], ◌∷◌, ◌++◌, Float}
use Rattle.std.specs.Float.{binary32}
use Rattle.std.specs.Float.Ieee.{to_bits}
use Rattle.wire.specs.Number.{bytes}

-- the word that has these bits, the lowest first
unfoldable pub word_of : List Bool → ℕ
word_of [] = 0
word_of (b ∷ bs) = cond b 1 0 + 2 * word_of bs

-- the word that has, of the lowest n bits, those that f says
unfoldable pub mask_of : ℕ → (ℕ → Bool) → ℕ
mask_of zero f = 0
mask_of (suc n) f = mask_of n (λ k. f (suc k)) * 2 + cond (f 0) 1 0

-- how many bits are set
unfoldable pub how_many : List Bool → ℕ
how_many [] = 0
how_many (b ∷ bs) = cond b 1 0 + how_many bs

-- a bit for each condition, at every third place
unfoldable pub spread : List Bool → List Bool
spread [] = []
spread (b ∷ bs) = b ∷ false ∷ false ∷ spread bs

-- 32-bit numbers one after the other
unfoldable pub words : List ℕ → List ℕ
words [] = []
words (v ∷ vs) = bytes 4 v ++ words vs

-- the four bytes of a REAL's bit pattern
abbrev pub real_bytes : Float → List ℕ
real_bytes x = bytes 4 (to_bits binary32 x)
