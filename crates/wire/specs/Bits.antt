-- Bits of a word, from 0 at the lowest.
use Rattle.std.specs.Prelude.{ℕ, zero, suc, ◌/◌, ◌%◌, ◌^◌, Bool, true, false, not, ◌&&◌, ◌||◌, List, [], ◌∷◌, eqb}

abbrev pub bit : ℕ → ℕ → Bool
bit w k = eqb (w / 2 ^ k % 2) 1

unfoldable pub is_one_of : List ℕ → ℕ → Bool
is_one_of [] k = false
is_one_of (j ∷ bits) k = eqb j k || is_one_of bits k

-- each bit below n that is set is one of these
unfoldable pub sets_only : List ℕ → ℕ → ℕ → Bool
sets_only bits zero w = true
sets_only bits (suc n) w = (not (bit w n) || is_one_of bits n) && sets_only bits n w
