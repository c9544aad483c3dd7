-- Laws of words made of bits. Assumes nothing.
use mathlib.Core.Path.{◌≡◌, refl, sym, ap, ◌∙◌}
use mathlib.Core.Bool.{Bool, true, false, cond}
use mathlib.Core.List.{List, [], ◌∷◌, ◌++◌}
use Prim.Native.Nat.{ℕ, zero, suc, ◌+◌, ◌*◌, ◌/◌, ◌%◌, ◌^◌, ◌<◌}
use native.Mathlib.Nat.{zero-add, one-mul, pow-zero, pow-succ', mul-add, mul_assoc, add_assoc, div-one, zero-div, div-div-eq-div-mul}
use native.Mathlib.Omega.{arith}
use lib.Dec.{eqb}
use lib.Arith.{mod-mul}
use lib.Pow.{shr-shr}
use lib.ListN.{length, get_or}
use Rattle.wire.specs.Bits.{bit}
use Rattle.wire.specs.Internal.Words.{word_of}

half : (b : Bool) (w : ℕ) → (cond b 1 0 + 2 * w) / 2 ≡ w
half true w = omega arith
half false w = omega arith

low : (b : Bool) (w : ℕ) → eqb ((cond b 1 0 + 2 * w) % 2) 1 ≡ b
low true w = let e : (1 + 2 * w) % 2 ≡ 1 = omega arith in rw e refl
low false w = let e : (0 + 2 * w) % 2 ≡ 0 = omega arith in rw e refl

pub bit-zero : (w : ℕ) → bit w 0 ≡ eqb (w % 2) 1
bit-zero w = rw (pow-zero, div-one) refl

one : (v : ℕ) → v < 2 → cond (eqb v 1) 1 0 ≡ v
one zero h = refl
one (suc zero) h = refl
one (suc (suc v)) h = absurd (omega arith)

-- a bit as a number
pub bit-digit : (w k : ℕ) → cond (bit w k) 1 0 ≡ w / 2 ^ k % 2
bit-digit w k = one (w / 2 ^ k % 2) (omega arith)

-- each bit is read back
pub bit_word : (bs : List Bool) (k : ℕ) → bit (word_of bs) k ≡ get_or bs k false
unfolding word_of
bit_word [] k = rw zero-div refl
bit_word (b ∷ bs) zero = bit-zero (cond b 1 0 + 2 * word_of bs) ∙ low b (word_of bs)
bit_word (b ∷ bs) (suc k) = rw (pow-succ', ← div-div-eq-div-mul, half) (bit_word bs k)

-- bits in front of others
pub word-append : (xs ys : List Bool) → word_of (xs ++ ys) ≡ word_of xs + 2 ^ length xs * word_of ys
unfolding word_of
word-append [] ys = simp (pow-zero, one-mul, zero-add)
word-append (x ∷ xs) ys = simp (word-append xs ys, pow-succ', mul-add, mul_assoc, add_assoc)

-- n bits are below 2 ^ n
pub word_lt : (bs : List Bool) → word_of bs < 2 ^ length bs
unfolding word_of
word_lt [] = rw pow-zero (omega arith)
word_lt (true ∷ bs) = omega (arith, word_lt bs, pow-succ' 2 (length bs))
word_lt (false ∷ bs) = omega (arith, word_lt bs, pow-succ' 2 (length bs))

-- two words, one above the other
pub word-join : (xs ys : List Bool) {n m : ℕ} → n ≡ word_of xs → m ≡ word_of ys → n + 2 ^ length xs * m ≡ word_of (xs ++ ys)
word-join xs ys e f = rw (e, f) (sym (word-append xs ys))

-- bits of a word without its lowest ones
pub bit-shift : (w a j : ℕ) → bit (w / 2 ^ a) j ≡ bit w (a + j)
bit-shift w a j = ap (λ (x : ℕ). eqb (x % 2) 1) (shr-shr w a j)

-- three bits, and those above them
pub word-halves : (a b c : Bool) (rest : List Bool) {w : ℕ} → w ≡ word_of (a ∷ b ∷ c ∷ rest)
    → (w % 8 ≡ word_of (a ∷ b ∷ c ∷ [])) × (w / 8 ≡ word_of rest)
word-halves a b c rest h =
    let s = h ∙ word-append (a ∷ b ∷ c ∷ []) rest in
    let l = word_lt (a ∷ b ∷ c ∷ []) in
    (omega arith, omega arith)

-- the two lowest bits
pub word_two : (w : ℕ) → w % 4 ≡ word_of (bit w 0 ∷ bit w 1 ∷ [])
unfolding word_of
word_two w = go (mod-mul w (omega arith) (omega arith)) (bit-digit w 0 ∙ rw div-one) (bit-digit w 1)
  where
    go : {m low high a b : ℕ} → m ≡ high * 2 + low → a ≡ low → b ≡ high → m ≡ a + 2 * (b + 2 * 0)
    go e f g = omega arith

-- the lowest bit
pub word_low : (b : Bool) (rest : List Bool) {w : ℕ} → w ≡ word_of (b ∷ rest) → eqb (w % 2) 1 ≡ b
unfolding word_of
word_low b rest h = rw h (low b (word_of rest))

-- the bits above the lowest
pub word-rest : (b : Bool) (rest : List Bool) {w : ℕ} → w ≡ word_of (b ∷ rest) → w / 2 ≡ word_of rest
unfolding word_of
word-rest b rest h = rw h (half b (word_of rest))
