-- What stands in a record after a value is written there: the laws that `LittleEndian` promises, proved. Assumes nothing.
use mathlib.Core.Path.{◌≡◌, refl, sym, ap, ◌∙◌}
use mathlib.Core.List.{List, ◌++◌, append_assoc}
use Prim.Native.Nat.{ℕ, zero, suc, ◌+◌, ◌*◌, ◌/◌, ◌^◌, ◌≤◌, ◌<◌}
use native.Mathlib.Nat.{pow-zero, pow-succ'}
use native.Mathlib.Omega.{arith}
use lib.Dec.{T}
use lib.Ieee.{Float, binary32, of_bits, to_bits, fits}
use lib.Ieee.Bits.{of_bits-to_bits, of_bits-fits, to_bits-lt}
use lib.ListN.{length, take, drop, length-take}
use lib.Seq.{sets, sets-eq, drop_at, take-append_seam}
use Rattle.wire.specs.Number.{part, value, number, bytes}
use Rattle.wire.specs.Real.{real_at}
use Rattle.wire.specs.Internal.Words.{real_bytes}

-- a number of n bytes has n bytes
pub length-bytes : (n v : ℕ) → length (bytes n v) ≡ n
unfolding bytes
length-bytes zero v = refl
length-bytes (suc n) v = ap suc (length-bytes n (v / 256))

-- bytes stand for the number that they were made of
pub value-bytes : (n v : ℕ) → v < 256 ^ n → value (bytes n v) ≡ v
unfolding value bytes
value-bytes zero v h = let p : 256 ^ zero ≡ 1 = pow-zero 256 in omega arith
value-bytes (suc n) v h =
    let p : 256 ^ suc n ≡ 256 * 256 ^ n = pow-succ' 256 n in
    let e : value (bytes n (v / 256)) ≡ v / 256 = value-bytes n (v / 256) (omega arith) in
    omega arith

-- what is written stands there
part-sets : (s : List ℕ) (at : ℕ) (xs : List ℕ) → at + length xs ≤ length s → part (sets s at xs) at (length xs) ≡ xs
part-sets s at xs h =
    let front : length (take at s) ≡ at = simp length-take (omega arith) in
    let rest = drop (at + length xs) s in
    ap (λ (l : List ℕ). part l at (length xs)) (sets-eq xs s at h ∙ append_assoc (take at s) xs rest)
    ∙ ap (take (length xs)) (drop_at (take at s) (xs ++ rest) at front)
    ∙ take-append_seam xs rest

-- a number that was written is read
pub number-back : (n v : ℕ) (s : List ℕ) (at : ℕ) → v < 256 ^ n → at + n ≤ length s → number (sets s at (bytes n v)) at n ≡ v
number-back n v s at small h =
    let long = length-bytes n v in
    ap (λ (k : ℕ). number (sets s at (bytes n v)) at k) (sym long) ∙ ap value (part-sets s at (bytes n v) (omega arith)) ∙ value-bytes n v small

-- a REAL that was written is read
pub real-back : (x : Float) (s : List ℕ) (at : ℕ) → (n : ℕ) × (x ≡ of_bits binary32 n) → at + 4 ≤ length s → real_at (sets s at (real_bytes x)) at ≡ x
real-back x s at some room =
    let h : T (fits binary32 x) = rw some.1 (of_bits-fits binary32 some.0) in
    ap (of_bits binary32) (number-back 4 (to_bits binary32 x) s at (to_bits-lt binary32 x h) room) ∙ of_bits-to_bits binary32 x h
