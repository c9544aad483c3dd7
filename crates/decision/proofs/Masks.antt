-- Six conditions decided by masks are decided one by one. Assumes nothing.
use mathlib.Core.Path.{◌≡◌, refl}
use mathlib.Core.Bool.{Bool, true, false, not, ◌&&◌, ◌||◌, beq, cond}
use Prim.Native.Nat.{ℕ, ◌+◌, ◌*◌, ◌/◌, ◌≤◌}
use lib.Bits.{bit_and, bit_or, bit_xor}
use lib.ListN.{take, drop}
use Rattle.wire.specs.Bits.{bit}
use Rattle.wire.specs.Internal.Words.{word_of}
use Rattle.wire.proofs.WordLaws.{bit-shift}
use Rattle.wire.proofs.MaskLaws.{Thirds, every, within, same, both, either, differ, flip, of_word, with-word, join}
use Rattle.wire.specs.Internal.Places.{condition_unit, condition_bit, six_bits}
use Rattle.history.specs.Internal.Condition.{Told, acknowledges, returns, activates, alarm_after, unacked_after}
use Rattle.decision.specs.Internal.Cells.{cell, six}

-- ---- laws of truth values: e enabled, a in alarm, u unacknowledged, m met, f freed, r ready, k acknowledged, q required, v activated

acknowledged : (e u k : Bool) → (e && u) && k ≡ e && k && u
acknowledged true true true = refl
acknowledged true true false = refl
acknowledged true false true = refl
acknowledged true false false = refl
acknowledged false u k = refl

returned : (e a m f : Bool) → (e && a) && (not (e && m) && f) ≡ e && a && (not m && f)
returned true a m f = refl
returned false a m f = refl

activated : (e a m r : Bool) → ((e && m) && r) && not (e && a) ≡ e && m && r && not a
activated true a m r = refl
activated false a m r = refl

stays : (v e a m f : Bool) → v || not (beq (e && a) (e && a && (not m && f))) ≡ v || e && not (not m && f) && a
stays true e a m f = refl
stays false false a m f = refl
stays false true true true f = refl
stays false true true false true = refl
stays false true true false false = refl
stays false true false true f = refl
stays false true false false true = refl
stays false true false false false = refl

waits : (v e u k q : Bool) → v && q || not v && not (beq (e && u) (e && k && u)) ≡ cond v q (e && not k && u)
waits true e u k true = refl
waits true e u k false = refl
waits false false u k q = refl
waits false true true true q = refl
waits false true true false q = refl
waits false true false true q = refl
waits false true false false q = refl

module _ (flags met frees ready acks on need : ℕ) where
  -- the words of the code
  abbrev alarm_before : ℕ
  alarm_before = bit_and (flags / condition_unit) on

  abbrev unacked_before : ℕ
  unacked_before = bit_and (flags / (2 * condition_unit)) on

  abbrev row : ℕ
  row = bit_and met on

  abbrev acknowledging : ℕ
  acknowledging = bit_and unacked_before acks

  abbrev returning : ℕ
  returning = bit_and alarm_before (bit_and frees (bit_xor row six_bits))

  abbrev activating : ℕ
  activating = bit_and (bit_and row ready) (bit_xor alarm_before six_bits)

  abbrev alarm_word : ℕ
  alarm_word = bit_or activating (bit_xor alarm_before returning)

  abbrev unacked_word : ℕ
  unacked_word = bit_or (bit_and activating need) (bit_and (bit_xor activating six_bits) (bit_xor unacked_before acknowledging))

  module _ (enabled required : Bool) (p : on ≡ cond enabled six_bits 0) (q : need ≡ cond required six_bits 0) where
    abbrev told : ℕ → Told
    told k =
        record { enabled = enabled; met = bit met (3 * k); frees = bit frees (3 * k); ready = bit ready (3 * k); ack = bit acks (3 * k); required = required }

    abbrev in_alarm : ℕ → Bool
    in_alarm k = bit flags (condition_bit k 0)

    abbrev unacked : ℕ → Bool
    unacked k = bit flags (condition_bit k 1)

    -- each has its bit for each condition
    enabled-is : Thirds on (λ k. enabled)
    enabled-is = rw p (every enabled)

    alarm-is : Thirds alarm_before (λ k. enabled && in_alarm k)
    alarm-is = same (of_word enabled-is (flags / condition_unit)) (λ k. rw (bit-shift flags (condition_bit 0 0) (3 * k)))

    unacked-is : Thirds unacked_before (λ k. enabled && unacked k)
    unacked-is = same (of_word enabled-is (flags / (2 * condition_unit))) (λ k. rw (bit-shift flags (condition_bit 0 1) (3 * k)))

    row_is : Thirds row (λ k. enabled && (told k).met)
    row_is = of_word enabled-is met

    acknowledges-is : Thirds acknowledging (λ k. acknowledges (told k) (unacked k))
    acknowledges-is = same (with-word unacked-is acks) (λ k. acknowledged enabled (unacked k) (told k).ack)

    returns_is : Thirds returning (λ k. returns (told k) (in_alarm k))
    returns_is = same (both alarm-is (of_word (flip row_is) frees)) (λ k. returned enabled (in_alarm k) (told k).met (told k).frees)

    activates-is : Thirds activating (λ k. activates (told k) (in_alarm k))
    activates-is = same (both (with-word row_is ready) (flip alarm-is)) (λ k. activated enabled (in_alarm k) (told k).met (told k).ready)

    alarm-after : Thirds alarm_word (λ k. alarm_after (told k) (in_alarm k))
    alarm-after =
        same (either activates-is (differ alarm-is returns_is))
        (λ k. stays (activates (told k) (in_alarm k)) enabled (in_alarm k) (told k).met (told k).frees)

    unacked-after : Thirds unacked_word (λ k. unacked_after (told k) (in_alarm k) (unacked k))
    unacked-after =
        same (either (both activates-is (rw q (every required))) (both (flip activates-is) (differ unacked-is acknowledges-is)))
        (λ k. waits (activates (told k) (in_alarm k)) enabled (unacked k) (told k).ack required)

    -- what is kept
    pub kept-fits : (alarm_word ≤ six_bits) × (unacked_word ≤ six_bits) × (row ≤ six_bits)
    kept-fits = (within alarm-after, within unacked-after, within row_is)

    pub kept-is : alarm_word + 2 * unacked_word + 4 * row ≡ word_of (six (take 3) (cell flags enabled met frees ready acks required))
    kept-is = join alarm-after unacked-after row_is

    -- the events
    pub events-fit : (acknowledging ≤ six_bits) × (returning ≤ six_bits) × (activating ≤ six_bits)
    events-fit = (within acknowledges-is, within returns_is, within activates-is)

    pub events-is : acknowledging + 2 * returning + 4 * activating ≡ word_of (six (drop 3) (cell flags enabled met frees ready acks required))
    events-is = join acknowledges-is returns_is activates-is
