-- Whether it is due is asked only of a condition that is met and not in alarm, whether it is cleared of one that is in alarm and not met.
-- Assumes nothing.
use mathlib.Core.Path.{◌≡◌, refl, ap}
use mathlib.Core.Bool.{Bool, true, false, not, ◌&&◌, and-false, true≢false}
use mathlib.Core.List.{List, ◌++◌}
use Prim.Native.Nat.{ℕ, ◌*◌, ◌/◌}
use lib.Bits.{bit_and, bit_xor}
use lib.ListN.{take, drop}
use Rattle.wire.specs.Bits.{bit}
use Rattle.wire.specs.Internal.Words.{word_of}
use Rattle.wire.proofs.WordLaws.{bit-shift}
use Rattle.wire.proofs.MaskLaws.{Thirds, every, same, of_word}
use Rattle.wire.specs.Internal.Places.{first_condition, condition_unit, condition_bit, six_bits}
use Rattle.condition.specs.Internal.Outcome.{outcome_bits}
use Rattle.decision.specs.declared.decide.Cells.{Cells}
use Rattle.decision.specs.Internal.Cells.{cell, six, cells_of}
use Rattle.analog.specs.Internal.Packed.{SameReady, SameFrees}
use Rattle.analog.proofs.Rows.{lacking, all-unset}

-- ---- one condition: e enabled, m met, f and g freed, r and s ready, k acknowledged, q required, a in alarm, u unacknowledged

ready-alike : (e m f r s k q a u : Bool) → m && not a ≡ false
    → outcome_bits (record { enabled = e; met = m; frees = f; ready = r; ack = k; required = q }) a u
    ≡ outcome_bits (record { enabled = e; met = m; frees = f; ready = s; ack = k; required = q }) a u
ready-alike false m f r s k q a u h = refl
ready-alike true true f r s k q true u h = rw (and-false r, and-false s)
ready-alike true true f r s k q false u h = absurd (true≢false h)
ready-alike true false f r s k q a u h = refl

frees-alike : (e m f g r k q a u : Bool) → a && not m ≡ false
    → outcome_bits (record { enabled = e; met = m; frees = f; ready = r; ack = k; required = q }) a u
    ≡ outcome_bits (record { enabled = e; met = m; frees = g; ready = r; ack = k; required = q }) a u
frees-alike false m f g r k q a u h = refl
frees-alike true true f g r k q a u h = refl
frees-alike true false f g r k q true u h = absurd (true≢false h)
frees-alike true false f g r k q false u h = rw (and-false (not f), and-false (not g))

-- ---- the six

-- the six decided by their outcomes
abbrev cells : (ℕ → List Bool) → Cells
cells o = record { kept = word_of (six (take 3) o); events = word_of (six (drop 3) o) }

-- outcomes that are alike where a bit is not set, and none of the six is
six-alike : {w : ℕ} {f : ℕ → Bool} → Thirds w f → w ≡ 0 → (o p : ℕ → List Bool) → ((k : ℕ) → f k ≡ false → o k ≡ p k) → cells o ≡ cells p
six-alike t z o p h =
    let n = all-unset t z in
    λ i. cells-of (h 0 n.0 i) (h 1 n.1 i) (h 2 n.2 i) (h 3 n.3 i) (h 4 n.4 i) (h 5 n.5 i)
  where
    cells-of : (a b c d e f : List Bool) → Cells
    cells-of a b c d e f =
        record {
          kept = word_of (take 3 a ++ (take 3 b ++ (take 3 c ++ (take 3 d ++ (take 3 e ++ take 3 f)))));
          events = word_of (drop 3 a ++ (drop 3 b ++ (drop 3 c ++ (drop 3 d ++ (drop 3 e ++ drop 3 f)))));
        }

module _ (flags met : ℕ) where
  -- the condition at place k was in alarm
  abbrev was : ℕ → Bool
  was k = bit flags (condition_bit k 0)

  pub same-ready : {ready other : ℕ} → ready ≡ other → SameReady flags met ready other
  same-ready h = record { alike = λ enabled frees acks required. ap (λ (r : ℕ). cells_of flags enabled met frees r acks required) h }

  pub same-frees : {frees other : ℕ} → frees ≡ other → SameFrees flags met frees other
  same-frees h = record { alike = λ enabled ready acks required. ap (λ (f : ℕ). cells_of flags enabled met f ready acks required) h }

  -- no condition is met and not in alarm
  pub ready-unasked : bit_xor (bit_and met six_bits) (bit_and (bit_and met six_bits) (flags / condition_unit)) ≡ 0 → (ready other : ℕ)
      → SameReady flags met ready other
  unfolding cells_of
  ready-unasked z ready other =
      let rising : Thirds (bit_xor (bit_and met six_bits) (bit_and (bit_and met six_bits) (flags / condition_unit))) (λ k. bit met (3 * k) && not (was k)) =
      same (lacking (of_word (every true) met) (flags / condition_unit)) (λ k. ap (λ (b : Bool). bit met (3 * k) && not b)
      (bit-shift flags first_condition (3 * k)))
      in
      record {
        alike = λ enabled frees acks required.
            six-alike rising z (cell flags enabled met frees ready acks required) (cell flags enabled met frees other acks required)
            (λ k.
            ready-alike enabled (bit met (3 * k)) (bit frees (3 * k)) (bit ready (3 * k)) (bit other (3 * k)) (bit acks (3 * k)) required (was k)
            (bit flags (condition_bit k 1)));
      }

  -- none is in alarm and not met
  pub frees-unasked : bit_xor (bit_and (flags / condition_unit) six_bits) (bit_and (bit_and (flags / condition_unit) six_bits) met) ≡ 0 → (frees other : ℕ)
      → SameFrees flags met frees other
  unfolding cells_of
  frees-unasked z frees other =
      let falling : Thirds (bit_xor (bit_and (flags / condition_unit) six_bits) (bit_and (bit_and (flags / condition_unit) six_bits) met))
      (λ k. was k && not (bit met (3 * k))) =
      same (lacking (of_word (every true) (flags / condition_unit)) met) (λ k. ap (λ (b : Bool). b && not (bit met (3 * k)))
      (bit-shift flags first_condition (3 * k)))
      in
      record {
        alike = λ enabled ready acks required.
            six-alike falling z (cell flags enabled met frees ready acks required) (cell flags enabled met other ready acks required)
            (λ k.
            frees-alike enabled (bit met (3 * k)) (bit frees (3 * k)) (bit other (3 * k)) (bit ready (3 * k)) (bit acks (3 * k)) required (was k)
            (bit flags (condition_bit k 1)));
      }
