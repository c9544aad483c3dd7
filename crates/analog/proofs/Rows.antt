-- The rows that begin, by words of bits. Assumes nothing.
use mathlib.Core.Path.{◌≡◌, refl, ap, ◌∙◌, sym}
use mathlib.Core.Bool.{Bool, true, false, not, ◌&&◌, cond, beq}
use mathlib.Core.List.{List, [], ◌∷◌}
use Prim.Native.Nat.{ℕ, ◌+◌, ◌*◌, ◌/◌}
use lib.Bits.{bit_and, bit_xor}
use Rattle.wire.specs.Bits.{bit}
use Rattle.wire.specs.Internal.Words.{word_of}
use Rattle.wire.proofs.WordLaws.{bit-shift, bit_word}
use Rattle.wire.proofs.MaskLaws.{Thirds, every, same, of_word, differ, with-word, join}
use Rattle.wire.specs.Internal.Places.{condition_unit, condition_bit, six_bits}
use native.Mathlib.Omega.{arith}
use native.Mathlib.Nat.{zero-div}
use Rattle.analog.specs.Internal.Packed.{row_begins}

begins : (on before : Bool) → not (beq on (on && before)) ≡ on && not before
begins true true = refl
begins true false = refl
begins false before = refl

-- the six bits of a word that has no others
thirds-bits : {w : ℕ} {f : ℕ → Bool} → Thirds w f
    → w ≡ word_of (f 0 ∷ false ∷ false ∷ f 1 ∷ false ∷ false ∷ f 2 ∷ false ∷ false ∷ f 3 ∷ false ∷ false ∷ f 4 ∷ false ∷ false ∷ f 5 ∷ false ∷ false ∷ [])
thirds-bits {w = w} p = let z : w + 2 * 0 + 4 * 0 ≡ w = omega arith in sym z ∙ join p (every false) (every false)

-- the bits that another word lacks
pub lacking : {w : ℕ} {f : ℕ → Bool} → Thirds w f → (v : ℕ) → Thirds (bit_xor w (bit_and w v)) (λ k. f k && not (bit v (3 * k)))
lacking {f = f} p v = same (differ p (with-word p v)) (λ k. begins (f k) (bit v (3 * k)))

pub rows-begin : (flags met on : ℕ) (enabled : Bool) → on ≡ cond enabled six_bits 0
    → Thirds (bit_xor (bit_and met on) (bit_and (bit_and met on) (flags / (4 * condition_unit)))) (row_begins flags enabled met)
rows-begin flags met on enabled e =
    rw e
    (same (lacking (of_word (every enabled) met) (flags / (4 * condition_unit)))
    (λ k. ap (λ (b : Bool). (enabled && bit met (3 * k)) && not b) (bit-shift flags (condition_bit 0 2) (3 * k))))

module _ {w : ℕ} {f : ℕ → Bool} (p : Thirds w f) where
  abbrev bits : List Bool
  bits = f 0 ∷ false ∷ false ∷ f 1 ∷ false ∷ false ∷ f 2 ∷ false ∷ false ∷ f 3 ∷ false ∷ false ∷ f 4 ∷ false ∷ false ∷ f 5 ∷ false ∷ false ∷ []

  pub six-bits : (bit w 0 ≡ f 0) × (bit w 3 ≡ f 1) × (bit w 6 ≡ f 2) × (bit w 9 ≡ f 3) × (bit w 12 ≡ f 4) × (bit w 15 ≡ f 5)
  six-bits =
      let e = thirds-bits p in (
        ap (λ (v : ℕ). bit v 0) e ∙ bit_word bits 0,
        ap (λ (v : ℕ). bit v 3) e ∙ bit_word bits 3,
        ap (λ (v : ℕ). bit v 6) e ∙ bit_word bits 6,
        ap (λ (v : ℕ). bit v 9) e ∙ bit_word bits 9,
        ap (λ (v : ℕ). bit v 12) e ∙ bit_word bits 12,
        ap (λ (v : ℕ). bit v 15) e ∙ bit_word bits 15,
      )

  -- a word that is 0 has none
  pub all-unset : w ≡ 0 → (f 0 ≡ false) × (f 1 ≡ false) × (f 2 ≡ false) × (f 3 ≡ false) × (f 4 ≡ false) × (f 5 ≡ false)
  all-unset z =
      let b = six-bits in
      let off : (k : ℕ) → bit w k ≡ false = λ k. rw (z, zero-div) in
      (sym b.0 ∙ off 0, sym b.1 ∙ off 3, sym b.2 ∙ off 6, sym b.3 ∙ off 9, sym b.4 ∙ off 12, sym b.5 ∙ off 15)
