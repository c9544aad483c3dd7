-- Which of an alarm's conditions are left to be marked: of three bits for each, one that is to be marked has one set. Assumes nothing.
use mathlib.Core.Bool.{Bool, true, false, cond, true≢false}
use mathlib.Core.List.{List}
use mathlib.Core.Logic.{◌≢◌}
use mathlib.Core.Path.{◌≡◌, refl, sym, ap, ◌∙◌}
use Prim.Native.Nat.{ℕ, zero, suc, ◌+◌, ◌*◌, ◌/◌, ◌%◌, ◌^◌, ◌≤◌, ◌<◌}
use native.Mathlib.Nat.{lt_of_not-le}
use native.Mathlib.Omega.{arith}
use lib.Dec.{eqb}
use lib.ListN.{get_or}
use lib.Pow.{shr_le, split}
use Rattle.std.specs.Int.{w32, trailing_zeros}
use Rattle.std.proofs.lemmas.Nat.Bits.{bit_at_above, bit_at_cat_low, bit_at-trailing_zeros}
use Rattle.wire.specs.Bits.{bit}
use Rattle.wire.specs.Internal.Places.{condition_bit, condition_unit, six_bits, six_range}
use Rattle.marks.specs.Internal.Marks.{mark_conditions}
use Rattle.marks.proofs.Still.{condition-still}
use Rattle.marks.proofs.Turns.{shift-more, bit-behind}

-- all six at a reset, and otherwise those that have events
abbrev pub to_mark : Bool → ℕ → ℕ
to_mark reset word = cond reset six_bits (word / condition_unit % six_range)

to_mark-lt : (reset : Bool) (word : ℕ) → to_mark reset word < six_range
to_mark-lt true word = omega arith
to_mark-lt false word = omega arith

six-set : (c : ℕ) → c < 6 → bit six_bits (3 * c + 0) ≡ true
six-set zero h = refl
six-set (suc zero) h = refl
six-set (suc (suc zero)) h = refl
six-set (suc (suc (suc zero))) h = refl
six-set (suc (suc (suc (suc zero)))) h = refl
six-set (suc (suc (suc (suc (suc zero))))) h = refl
six-set (suc (suc (suc (suc (suc (suc c)))))) h = absurd (omega arith)

-- a condition without such a bit has no events, and no counts are reset
not-to-mark : (reset : Bool) (word c : ℕ) → c < 6 → ((k : ℕ) → k < 3 → bit (to_mark reset word) (3 * c + k) ≡ false)
    → (reset ≡ false) × ((k : ℕ) → k < 3 → bit word (condition_bit c k) ≡ false)
not-to-mark true word c h q = absurd (true≢false (sym (six-set c h) ∙ q 0 (omega arith)))
not-to-mark false word c h q = (refl, λ k l. sym (own k l) ∙ q k l)
  where
    own : (k : ℕ) → k < 3 → bit (word / condition_unit % six_range) (3 * c + k) ≡ bit word (condition_bit c k)
    own k l =
        let w = word / condition_unit in
        let j = 3 * c + k in
        ap (λ (d : ℕ). eqb d 1) (sym (bit_at_cat_low (w / six_range) 18 (w % six_range) j (omega arith)))
        ∙ ap (λ (v : ℕ). bit v j) (split w 18)
        ∙ bit-behind word 9 j (condition_bit c k) refl (omega arith)

module _ (required : Bool) (starts : List ℕ) (word time base n : ℕ) (xs : List ℕ) where
  -- k conditions behind the first n, of which none is to be marked
  pub conditions-skipped : (k : ℕ) {m left : ℕ} → left ≡ to_mark (bit word 4) word / 2 ^ (3 * n) → n + k ≡ m → m ≤ 6
      → ((i : ℕ) → i < 3 * k → bit left i ≡ false)
      → mark_conditions required starts word time base n xs ≡ mark_conditions required starts word time base m xs
  unfolding mark_conditions
  conditions-skipped zero {m} e p h q =
      let f : m ≡ n = omega arith in
      rw f
  conditions-skipped (suc k) {m} e p h q =
      let c = n + k in
      let f : m ≡ suc c = omega arith in
      let own = λ (i : ℕ) (l : i < 3). bit-behind (to_mark (bit word 4) word) (3 * n) (3 * k + i) (3 * c + i) e (omega arith) in
      let still = not-to-mark (bit word 4) word c (omega arith) (λ i l. sym (own i l) ∙ q (3 * k + i) (omega arith)) in
      let b₀ = still.1 0 (omega arith) in
      let b₁ = still.1 1 (omega arith) in
      let b₂ = still.1 2 (omega arith) in
      conditions-skipped k e refl (omega arith) (λ i l. q i (omega arith))
      ∙ rw (f, still.0, b₀, b₁, b₂) (sym (condition-still required (get_or starts c 0) time (base + 4 * c) _))

-- the lowest bit that is left is that of one of the six, and none before that one is to be marked
pub first-left : (reset : Bool) (word n : ℕ) {left : ℕ} → left ≡ to_mark reset word / 2 ^ (3 * n) → left ≢ 0
    → (n + trailing_zeros w32 left / 3 < 6) × ((i : ℕ) → i < 3 * (trailing_zeros w32 left / 3) → bit left i ≡ false)
first-left reset word n {left} e some =
    let whole = to_mark reset word in
    let less = to_mark-lt reset word in
    let t = trailing_zeros w32 left in
    let j = 3 * n + t in
    let lowest = bit_at-trailing_zeros w32 left (omega arith) (omega (arith, shr_le whole (3 * n))) in
    let one = ap (λ (v : ℕ). v % 2) (shift-more whole (3 * n) t j e refl) in
    let m : j < 18 = lt_of_not-le (λ (l : 18 ≤ j). omega (arith, bit_at_above whole 18 j less l)) in
    (omega arith, λ i l. ap (λ (d : ℕ). eqb d 1) (lowest.2 i (omega arith)))
