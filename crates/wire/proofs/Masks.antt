-- A word with a mask's bits alone: one law for every mask. Assumes nothing.
use mathlib.Core.Path.{◌≡◌, refl, sym, ap, ap₂, ◌∙◌}
use mathlib.Core.Bool.{Bool, true, false, not, ◌&&◌, ◌||◌, cond}
use mathlib.Core.List.{List}
use Prim.Native.Nat.{ℕ, zero, suc, ◌+◌, ◌*◌, ◌/◌, ◌%◌, ◌^◌, ◌<◌, min}
use native.Mathlib.Nat.{pow-zero, pow-succ'}
use native.Mathlib.Numerals.{one-add}
use native.Mathlib.Omega.{arith}
use borrow.Author.Tests.{eqb-true, eqb-false, eq-eqb, ne_eqb}
use lib.Dec.{eqb}
use lib.Bits.{bit_and, and_step}
use Rattle.wire.specs.Bits.{bit, is_one_of, sets_only}
use Rattle.wire.specs.Internal.Words.{mask_of}
use Rattle.wire.proofs.WordLaws.{bit-zero, bit-shift}

-- each bit below n that is set is one that f says, from the lowest bit on
unfoldable only : (ℕ → Bool) → ℕ → ℕ → Bool
only f zero w = true
only f (suc n) w = (not (bit w 0) || f 0) && only (λ k. f (suc k)) n (w / 2)

and-swap : (a b c : Bool) → a && (b && c) ≡ b && (a && c)
and-swap true b c = refl
and-swap false true c = refl
and-swap false false c = refl

only-last : (n : ℕ) (f : ℕ → Bool) (w : ℕ) → only f (suc n) w ≡ (not (bit w n) || f n) && only f n w
unfolding only
only-last zero f w = refl
only-last (suc n) f w =
    let next : bit (w / 2) n ≡ bit w (suc n) = bit-shift w 1 n ∙ ap (bit w) (one-add n) in
    let rest = only (λ k. f (suc k)) n (w / 2) in
    ap (λ (b : Bool). (not (bit w 0) || f 0) && b) (only-last n (λ k. f (suc k)) (w / 2) ∙ ap (λ (b : Bool). (not b || f (suc n)) && rest) next)
    ∙ and-swap (not (bit w 0) || f 0) (not (bit w (suc n)) || f (suc n)) rest

only-sets : (bits : List ℕ) (n w : ℕ) → only (is_one_of bits) n w ≡ sets_only bits n w
unfolding only sets_only
only-sets bits zero w = refl
only-sets bits (suc n) w = only-last n (is_one_of bits) w ∙ ap (λ (b : Bool). (not (bit w n) || is_one_of bits n) && b) (only-sets bits n w)

-- two numbers are equal where their halves and their lowest bits are
halves : (x y c d : ℕ) → c < 2 → d < 2 → eqb (x * 2 + c) (y * 2 + d) ≡ eqb c d && eqb x y
halves x y c d p q = go (eqb c d) (eqb x y) refl refl
  where
    go : (s t : Bool) → eqb c d ≡ s → eqb x y ≡ t → eqb (x * 2 + c) (y * 2 + d) ≡ s && t
    go true true e f = eq-eqb (x * 2 + c) (y * 2 + d) (omega (arith, eqb-true c d e, eqb-true x y f))
    go true false e f = ne_eqb (x * 2 + c) (y * 2 + d) (λ g. eqb-false x y f (omega (arith, eqb-true c d e)))
    go false t e f = ne_eqb (x * 2 + c) (y * 2 + d) (λ g. eqb-false c d e (omega arith))

-- the lowest bit
lowest : (b : Bool) (c : ℕ) → c < 2 → eqb (min c (cond b 1 0)) c ≡ not (eqb c 1) || b
lowest true zero h = refl
lowest false zero h = refl
lowest true (suc zero) h = refl
lowest false (suc zero) h = refl
lowest b (suc (suc c)) h = absurd (omega arith)

digit_lt : (b : Bool) → cond b 1 0 < 2
digit_lt true = omega arith
digit_lt false = omega arith

masked : (n : ℕ) (f : ℕ → Bool) (w : ℕ) → w < 2 ^ n → eqb (bit_and w (mask_of n f)) w ≡ only f n w
unfolding only mask_of
masked zero f w h =
    let z : w ≡ 0 = omega (arith, pow-zero 2) in
    rw z refl
masked (suc n) f w h =
    let m = mask_of n (λ k. f (suc k)) in
    let b : ℕ = cond (f 0) 1 0 in
    let l = digit_lt (f 0) in
    let high : (m * 2 + b) / 2 ≡ m = omega arith in
    let low : (m * 2 + b) % 2 ≡ b = omega arith in
    let w-is : w / 2 * 2 + w % 2 ≡ w = omega arith in
    let small : w / 2 < 2 ^ n = omega (arith, pow-succ' 2 n) in
    ap₂ eqb (and_step w (m * 2 + b) ∙ rw (high, low)) (sym w-is)
    ∙ halves (bit_and (w / 2) m) (w / 2) (min (w % 2) b) (w % 2) (omega arith) (omega arith)
    ∙ ap₂ (λ (x y : Bool). x && y) (lowest (f 0) (w % 2) (omega arith) ∙ ap (λ (x : Bool). not x || f 0) (sym (bit-zero w)))
    (masked n (λ k. f (suc k)) (w / 2) small)

-- a word of n bits is unchanged by the mask of these bits where each bit that it sets is one of them
pub mask-says : (bits : List ℕ) (n w : ℕ) → w < 2 ^ n → eqb (bit_and w (mask_of n (is_one_of bits))) w ≡ sets_only bits n w
mask-says bits n w h = masked n (is_one_of bits) w h ∙ only-sets bits n w
