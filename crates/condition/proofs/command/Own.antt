-- The bits that acknowledge one condition each: program bits that rise, beside operator bits. Assumes nothing.
use mathlib.Core.Path.{◌≡◌, refl, ap, ap₂, ◌∙◌}
use mathlib.Core.Bool.{Bool, true, false, not, ◌&&◌, ◌||◌}
use mathlib.Core.List.{[], ◌∷◌}
use Prim.Native.Nat.{ℕ, zero, suc, ◌+◌, ◌/◌, ◌%◌, ◌^◌, ◌<◌}
use native.Mathlib.Omega.{arith}
use lib.Dec.{eqb}
use lib.Bits.{bit_and, bit_or, bit_xor, and_shr, or_shr, xor_shr, and_mod, or_mod, xor_mod}
use Rattle.wire.specs.Bits.{bit}
use Rattle.wire.proofs.WordLaws.{bit-shift}
use Rattle.condition.specs.Command.{rises, acks_all, acks}
use Rattle.condition.specs.Internal.Outcome.{ack_bits}

-- the bits that w has and p lacks
abbrev risen : ℕ → ℕ → ℕ
risen w p = bit_xor w (bit_and w p)

-- ---- of the lowest bits

or-digit : (u v : ℕ) → u < 2 → v < 2 → eqb (bit_or u v) 1 ≡ eqb u 1 || eqb v 1
or-digit zero zero h g = refl
or-digit zero (suc zero) h g = refl
or-digit (suc zero) zero h g = refl
or-digit (suc zero) (suc zero) h g = refl
or-digit (suc (suc u)) v h g = absurd (omega arith)
or-digit zero (suc (suc v)) h g = absurd (omega arith)
or-digit (suc zero) (suc (suc v)) h g = absurd (omega arith)

risen-digit : (u v : ℕ) → u < 2 → v < 2 → eqb (bit_xor u (bit_and u v)) 1 ≡ eqb u 1 && not (eqb v 1)
risen-digit zero zero h g = refl
risen-digit zero (suc zero) h g = refl
risen-digit (suc zero) zero h g = refl
risen-digit (suc zero) (suc zero) h g = refl
risen-digit (suc (suc u)) v h g = absurd (omega arith)
risen-digit zero (suc (suc v)) h g = absurd (omega arith)
risen-digit (suc zero) (suc (suc v)) h g = absurd (omega arith)

-- ---- of every bit

bit-or : (a b k : ℕ) → bit (bit_or a b) k ≡ bit a k || bit b k
bit-or a b k =
    ap (λ (x : ℕ). eqb (x % 2) 1) (or_shr a b k)
    ∙ ap (λ (x : ℕ). eqb x 1) (or_mod (a / 2 ^ k) (b / 2 ^ k) 1)
    ∙ or-digit (a / 2 ^ k % 2) (b / 2 ^ k % 2) (omega arith) (omega arith)

bit-risen : (w p k : ℕ) → bit (risen w p) k ≡ rises w p k
bit-risen w p k =
    ap (λ (x : ℕ). eqb (x % 2) 1) (xor_shr w (bit_and w p) k ∙ ap (bit_xor (w / 2 ^ k)) (and_shr w p k))
    ∙ ap (λ (x : ℕ). eqb x 1)
    (xor_mod (w / 2 ^ k) (bit_and (w / 2 ^ k) (p / 2 ^ k)) 1 ∙ ap (bit_xor (w / 2 ^ k % 2)) (and_mod (w / 2 ^ k) (p / 2 ^ k) 1))
    ∙ risen-digit (w / 2 ^ k % 2) (p / 2 ^ k % 2) (omega arith) (omega arith)

-- ---- of the six

abbrev pub own : ℕ → ℕ → ℕ
own w p = bit_or (risen w p / 8192) (w / 524288)

or-all : (a b c : Bool) → a || (b || c) ≡ (a || b) || c
or-all true b c = refl
or-all false b c = refl

acks-own : (w p k : ℕ) → acks_all w p || bit (own w p) k ≡ (acks_all w p || rises w p (13 + k)) || bit w (19 + k)
acks-own w p k =
    ap (λ (b : Bool). acks_all w p || b)
    (bit-or (risen w p / 8192) (w / 524288) k
    ∙ ap₂ (λ (a b : Bool). a || b) (bit-shift (risen w p) 13 k ∙ bit-risen w p (13 + k)) (bit-shift w 19 k))
    ∙ or-all (acks_all w p) (rises w p (13 + k)) (bit w (19 + k))

pub acks-are : (w p : ℕ) {all : Bool} → all ≡ acks_all w p
    → (all || bit (own w p) 0) ∷ (all || bit (own w p) 1) ∷ (all || bit (own w p) 2) ∷ (all || bit (own w p) 3)
    ∷ (all || bit (own w p) 4) ∷ (all || bit (own w p) 5) ∷ [] ≡ ack_bits w p
unfolding ack_bits acks
acks-are w p e =
    let f : (k : ℕ) → _ = acks-own w p in
    rw (e, f 0, f 1, f 2, f 3, f 4, f 5) refl
