-- Laws of REALs: which differ from themselves, patterns there and back, and what a bounded one is. Assumes nothing.
use mathlib.Core.Path.{◌≡◌, refl, sym, subst}
use mathlib.Core.Bool.{Bool, true, false, not, false≢true}
use Prim.Native.Nat.{ℕ, ◌^◌, ◌<◌}
use lib.Dec.{T}
use lib.Ieee.{Float, nan, inf, fin, binary32, neg, eq, ne, lt, le, of_bits, to_bits, is_nan}
use lib.Ieee.Compare.{differs_from_itself}
use lib.Ieee.Bits.{to_bits-of_bits}
use Rattle.wire.specs.Real.{bounded, largest}

pub nan-only : (x : Float) → is_nan x ≡ true → x ≡ nan
unfolding is_nan
nan-only nan h = refl
nan-only (inf s) h = absurd (false≢true h)
nan-only (fin s m e) h = absurd (false≢true h)

pub differs : (x : Float) → eq x x ≡ false → x ≡ nan
unfolding ne
differs x h = differs_from_itself x (subst (λ (b : Bool). T (not b)) (sym h) tt)

pub equals_itself : (x : Float) → eq x x ≡ true → T (not (is_nan x))
unfolding eq is_nan
equals_itself nan h = absurd (false≢true h)
equals_itself (inf s) h = tt
equals_itself (fin s m e) h = tt

pub bounded-number : (x : Float) → bounded x ≡ true → T (not (is_nan x))
unfolding bounded largest le lt eq neg of_bits is_nan
bounded-number nan h = absurd (false≢true h)
bounded-number (inf s) h = tt
bounded-number (fin s m e) h = tt

-- the pattern of a bounded REAL is the pattern that it was read from
pub pattern-back : (n : ℕ) → n < 2 ^ 32 → bounded (of_bits binary32 n) ≡ true → to_bits binary32 (of_bits binary32 n) ≡ n
pattern-back n h b = to_bits-of_bits binary32 n h (bounded-number _ b)
