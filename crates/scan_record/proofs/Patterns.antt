-- A REAL is within the bound just where its bit pattern, without the sign, is at most the bound's. Assumes nothing.
use mathlib.Core.Path.{◌≡◌, refl, sym, ap, ◌∙◌}
use mathlib.Core.Bool.{Bool, true, false, ◌&&◌, ◌||◌, cond}
use Prim.Native.Nat.{ℕ, zero, suc, ◌+◌, ◌*◌, ◌/◌, ◌%◌, ◌^◌, ◌≤◌, ◌<◌}
use native.Mathlib.Nat.{mul-one, mul_right_comm, mul-le-mul_right, le_of_mul-le-mul_right, pow-suc, pow-le-pow_right}
use native.Mathlib.Numerals.{lt_of_le_of_ne}
use native.Mathlib.Omega.{arith}
use borrow.Author.Tests.{ltb-true, ltb-false, eqb-true, eqb-false, le-leb, lt-leb, lt-ltb}
use lib.IntN.{ℤ}
use lib.Dec.{leb, ltb, eqb}
use lib.Pow.{pow_pos}
use lib.Ieee.{Float, nan, inf, fin, binary32, up, down, odd, neg, lt, eq, le, of_fields, of_bits}
use lib.Ieee.Exact.{HasValue, odd_sign}
use lib.Ieee.Fits.{down_pos}
use Rattle.wire.specs.Real.{bounded, largest}
use Rattle.wire.proofs.Laws.{leb-same}

-- the bound in units of the smallest REAL, and its pattern
abbrev most : ℕ
most = 14901161 * 2 ^ 175

abbrev most_pattern : ℕ
most_pattern = 0x58635FA9

-- a REAL has 24 binary digits; its pattern has the 23 behind the leading one, and above them the field, which says how far they are moved up
abbrev leading : ℕ
leading = 8388608

abbrev pattern : ℕ → ℕ → ℕ
pattern field digits = field * leading + digits

-- `<=` as floats test it
le_test : (a b : ℕ) (e : Bool) → (e ≡ true → a ≡ b) → (e ≡ false → a ≡ b → ⊥) → ltb a b || (e && true) ≡ leb a b
le_test a b e f g = go (ltb a b) e refl f g
  where
    go : (t e : Bool) → ltb a b ≡ t → (e ≡ true → a ≡ b) → (e ≡ false → a ≡ b → ⊥) → t || (e && true) ≡ leb a b
    go true e h f g = sym (le-leb a b (omega (arith, ltb-true a b h)))
    go false true h f g = sym (le-leb a b (omega (arith, f refl)))
    go false false h f g = sym (lt-leb a b (lt_of_le_of_ne (ltb-false a b h) (λ e. g refl (sym e))))

true-right : (p : Bool) → p && true ≡ p
true-right true = refl
true-right false = refl

-- fractions compared crosswise
cross : (c x d a u : ℕ) → x * u ≡ a * d → 0 < d → 0 < u → leb x (c * d) ≡ leb a (c * u)
cross c x d a u h p q =
    leb-same x (c * d) a (c * u) (λ l. le_of_mul-le-mul_right (rw (← h, mul_right_comm c u d) (mul-le-mul_right u l)) p)
    (λ l. le_of_mul-le-mul_right (rw (h, mul_right_comm c d u) (mul-le-mul_right d l)) q)

-- a magnitude of a units
within : (m : ℕ) (e : ℤ) (a : ℕ) → m * up e * 2 ^ 149 ≡ a * down e → leb (m * up e * 1) (14901161 * 2 ^ 26 * down e) ≡ leb a most
within m e a h = rw (mul-one (m * up e)) (cross (14901161 * 2 ^ 26) (m * up e) (down e) a (2 ^ 149) h (down_pos e) (pow_pos 149))

-- a finite REAL of a units is within the bound where the bound has as many; an infinity and a NaN never are
bounded-is : (v : Float) (s : Bool) (a : ℕ) → HasValue v s a (2 ^ 149) → bounded v ≡ leb a most
unfolding bounded largest le lt eq neg of_bits
bounded-is nan s a h = absurd h
bounded-is (inf t) s a h = absurd h
bounded-is (fin true m e) s a h =
    let x : ℕ = m * up e * 1 in
    let y : ℕ = 14901161 * 2 ^ 26 * down e in
    let p = down_pos e in
    rw (lt-ltb 0 (x + y) (omega arith))
    (true-right _ ∙ le_test x y (eqb y x) (λ q. sym (eqb-true y x q)) (λ q r. eqb-false y x q (sym r)) ∙ within m e a h.1)
bounded-is (fin false m e) s a h =
    let x : ℕ = m * up e * 1 in
    let y : ℕ = 14901161 * 2 ^ 26 * down e in
    let p = down_pos e in
    rw (lt-ltb 0 (y + x) (omega arith)) (le_test x y (eqb x y) (eqb-true x y) (eqb-false x y) ∙ within m e a h.1)

none-bounded : (z s : Bool) → bounded (cond z (inf s) nan) ≡ false
unfolding bounded largest le lt eq neg of_bits
none-bounded true true = refl
none-bounded true false = refl
none-bounded false s = refl

-- numbers of 24 digits that are moved up: by less than the bound's, by as much, and by more
module _ (q v w : ℕ) where
  less : q < 16777216 → v * 2 ≤ w → leb (q * v) (14901161 * w) ≡ true
  less h l = let k : q * v ≤ 16777216 * v = mul-le-mul_right v (omega arith) in le-leb (q * v) (14901161 * w) (omega arith)

  more : leading ≤ q → 0 < w → w * 2 ≤ v → leb (q * v) (14901161 * w) ≡ false
  more h p l = let k : leading * v ≤ q * v = mul-le-mul_right v h in lt-leb (q * v) (14901161 * w) (omega arith)

  same : 0 < w → leb (q * w) (14901161 * w) ≡ leb q 14901161
  same p = leb-same (q * w) (14901161 * w) q 14901161 (λ l. le_of_mul-le-mul_right l p) (λ l. mul-le-mul_right w l)

-- moved up further is at least twice as much
twice : (j k : ℕ) → j < k → 2 ^ j * 2 ≤ 2 ^ k
twice j k h = let l : 2 ^ suc j ≤ 2 ^ k = pow-le-pow_right (omega arith) (omega arith) in rw (pow-suc 2 j) at l

-- the digits t behind a field x + 1, in units and as a pattern
in_order : (x t : ℕ) → t < leading → leb ((leading + t) * 2 ^ x) most ≡ leb (pattern (suc x) t) most_pattern
in_order x t h = go (ltb x 175) (ltb 175 x) refl refl
  where
    go : (p q : Bool) → ltb x 175 ≡ p → ltb 175 x ≡ q → leb ((leading + t) * 2 ^ x) most ≡ leb (pattern (suc x) t) most_pattern
    go true q e f =
        let l = ltb-true x 175 e in
        less (leading + t) (2 ^ x) (2 ^ 175) (omega arith) (twice x 175 l) ∙ sym (le-leb (pattern (suc x) t) most_pattern (omega arith))
    go false true e f =
        let l = ltb-true 175 x f in
        more (leading + t) (2 ^ x) (2 ^ 175) (omega arith) (pow_pos 175) (twice 175 x l)
        ∙ sym (lt-leb (pattern (suc x) t) most_pattern (omega arith))
    go false false e f =
        let at : x ≡ 175 = omega (arith, ltb-false x 175 e, ltb-false 175 x f) in
        rw at (same (leading + t) 0 (2 ^ 175) (pow_pos 175)
        ∙ leb-same (leading + t) 14901161 (pattern 176 t) most_pattern (λ l. omega arith) (λ l. omega arith))

fields-bounded : (s : Bool) (x t : ℕ) → t < leading → bounded (of_fields binary32 s x t) ≡ leb (pattern x t) most_pattern
unfolding of_fields
fields-bounded s zero t h =
    bounded-is _ s (t * 2 ^ 0) (odd_sign 24 s t 0 149) ∙ less t (2 ^ 0) (2 ^ 175) (omega arith) (twice 0 175 (omega arith))
    ∙ sym (le-leb (pattern 0 t) most_pattern (omega arith))
fields-bounded s (suc x) t h = go (eqb (suc x) 255) refl
  where
    go : (b : Bool) → eqb (suc x) 255 ≡ b
        → bounded (cond b (cond (eqb t 0) (inf s) nan) (odd 24 s (leading + t) x 149)) ≡ leb (pattern (suc x) t) most_pattern
    go true e = none-bounded (eqb t 0) s ∙ sym (lt-leb (pattern (suc x) t) most_pattern (omega (arith, eqb-true (suc x) 255 e)))
    go false e = bounded-is _ s ((leading + t) * 2 ^ x) (odd_sign 24 s (leading + t) x 149) ∙ in_order x t h

pub pattern-bounded : (n : ℕ) → bounded (of_bits binary32 n) ≡ leb (n % 2147483648) most_pattern
unfolding of_bits
pattern-bounded n =
    let whole : n % 2147483648 / leading * leading + n % leading ≡ n % 2147483648 = omega arith in
    fields-bounded (leb 2147483648 n) (n % 2147483648 / leading) (n % leading) (omega arith) ∙ ap (λ (k : ℕ). leb k most_pattern) whole
