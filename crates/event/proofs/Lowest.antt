-- The event of the lowest bit of a word that is set, and those of the others. Assumes nothing.
use mathlib.Core.Path.{◌≡◌, refl, sym, ap, ap₂, ◌∙◌}
use mathlib.Core.Bool.{Bool}
use mathlib.Core.List.{List, [], ◌∷◌, ◌++◌}
use Prim.Native.Nat.{ℕ, zero, suc, ◌+◌, ◌*◌, ◌/◌, ◌%◌, ◌-◌, ◌^◌, ◌≤◌, ◌<◌}
use native.Mathlib.Nat.{zero-add, pow-succ'}
use native.Mathlib.Omega.{arith}
use lib.Bits.{bit_and, and_step, and_self}
use lib.Pow.{field, mod-mod-pow}
use lib.Count.{count_trailing_zeros}
use lib.ListN.{length, length-append}
use Rattle.std.proofs.Common.{inl, inr, add-one}
use Rattle.std.proofs.lemmas.Bool.{cases_lt}
use Rattle.settings.specs.declared.types.Kind.{Kind}
use Rattle.event.specs.Event.{Event, event_bytes, log_bytes}
use Rattle.event.specs.Internal.Events.{event_at}
use Rattle.event.specs.Internal.Bits.{events_of}
use Rattle.event.specs.Internal.Source.{source_event, source_log}
use Rattle.event.specs.declared.source.Source.{Source}
use Rattle.wire.specs.Internal.Places.{word_bits}
use Rattle.wire.proofs.Laws.{sets-append}
use Rattle.layout.specs.Internal.Words.{kind_in}
use lib.Seq.{sets}
use Rattle.event.proofs.Stores.{length-event}
use Rattle.event.proofs.Logs.{no-events}

-- the zeros below the lowest bit of a word that is set
zeros-even : (w word : ℕ) → word % 2 ≡ 0 → count_trailing_zeros (suc w) word ≡ suc (count_trailing_zeros w (word / 2))
unfolding count_trailing_zeros
zeros-even w word e = rw e

zeros-odd : (w word : ℕ) → word % 2 ≡ 1 → count_trailing_zeros (suc w) word ≡ 0
unfolding count_trailing_zeros
zeros-odd w word e = rw e

-- a word of n bits has fewer
pub few-zeros : (w n word : ℕ) → n ≤ w → 0 < word → word < 2 ^ n → count_trailing_zeros w word < n
few-zeros w zero word m some fits = absurd (omega arith)
few-zeros zero (suc n) word m some fits = absurd (omega arith)
few-zeros (suc w) (suc n) word m some fits =
    elim (cases_lt (word % 2) 1) [
      | inl l ↦
          let z : word % 2 ≡ 0 = omega arith in
          let f : count_trailing_zeros w (word / 2) < n = few-zeros w n (word / 2) (omega arith) (omega arith) (omega (arith, pow-succ' 2 n)) in
          omega (arith, zeros-even w word z)
      | inr l ↦ let o : word % 2 ≡ 1 = omega arith in omega (arith, zeros-odd w word o)
    ]

module _ (alarm : ℕ) (kind : Kind) (suppressed : Bool) (time : ℕ) where
  -- bits past the first n stand for no events
  low-events : (n k word : ℕ) → events_of alarm kind suppressed time n k (word % 2 ^ n) ≡ events_of alarm kind suppressed time n k word
  unfolding events_of
  low-events zero k word = refl
  low-events (suc n) k word =
      let l : word % 2 ^ suc n % 2 ≡ word % 2 = rw add-one at (mod-mod-pow word n 1) in
      let h : word % 2 ^ suc n / 2 ≡ word / 2 % 2 ^ n = rw add-one at (field word n 1) in
      rw (l, h, low-events n (suc k) (word / 2))

  -- the lowest bit is clear
  even-events : (n k word : ℕ) → word % 2 ≡ 0 → events_of alarm kind suppressed time (suc n) k word ≡ events_of alarm kind suppressed time n (suc k) (word / 2)
  unfolding events_of
  even-events n k word e = rw e

  -- the lowest bit is set
  odd-events : (n k word : ℕ) → word % 2 ≡ 1
      → events_of alarm kind suppressed time (suc n) k word
      ≡ event_at alarm kind suppressed time k ∷ events_of alarm kind suppressed time n (suc k) (word / 2)
  unfolding events_of
  odd-events n k word e = rw e

  -- those of a word whose lowest bit is clear, from half of it
  twice-events : (n k word half : ℕ) → word ≡ half * 2
      → events_of alarm kind suppressed time n (suc k) half ≡ events_of alarm kind suppressed time (suc n) k word
  twice-events n k word half e =
      let h : word / 2 ≡ half = omega arith in
      sym (even-events n k word (omega arith) ∙ rw h)

  -- the event of the lowest bit that is set, and those of the others
  first-event : (w n k word : ℕ) → n ≤ w → 0 < word → word < 2 ^ n
      → events_of alarm kind suppressed time n k word
      ≡ event_at alarm kind suppressed time (k + count_trailing_zeros w word) ∷ events_of alarm kind suppressed time n k (bit_and word (word - 1))
  first-event w zero k word m some fits = absurd (omega arith)
  first-event zero (suc n) k word m some fits = absurd (omega arith)
  first-event (suc w) (suc n) k word m some fits =
      elim (cases_lt (word % 2) 1) [
        | inl l ↦
            let z : word % 2 ≡ 0 = omega arith in
            let h : (word - 1) / 2 ≡ word / 2 - 1 = omega arith in
            even-events n k word z
            ∙ first-event w n (suc k) (word / 2) (omega arith) (omega arith) (omega (arith, pow-succ' 2 n))
            ∙ ap₂ (λ (i : ℕ) (es : List Event). event_at alarm kind suppressed time i ∷ es) (omega (arith, zeros-even w word z))
            (twice-events n k (bit_and word (word - 1)) (bit_and (word / 2) (word / 2 - 1))
            (omega (arith, and_step word (word - 1), ap (bit_and (word / 2)) h)))
        | inr l ↦
            let o : word % 2 ≡ 1 = omega arith in
            let h : (word - 1) / 2 ≡ word / 2 = omega arith in
            odd-events n k word o
            ∙ ap₂ (λ (i : ℕ) (es : List Event). event_at alarm kind suppressed time i ∷ es) (omega (arith, zeros-odd w word o))
            (twice-events n k (bit_and word (word - 1)) (word / 2) (omega (arith, and_step word (word - 1), ap (bit_and (word / 2)) h, and_self (word / 2))))
      ]

-- ---- the bytes of an alarm's event word

module _ (s : Source) where
  -- bits past those of events
  pub low-log : (word : ℕ) → source_log s word_bits 0 (word % 2 ^ word_bits) ≡ source_log s word_bits 0 word
  low-log word = ap log_bytes (low-events s.number (kind_in s.form s.settings.now 0) s.suppressed s.time word_bits 0 word)

  -- no bit is set
  pub no-log : (word : ℕ) → word ≡ 0 → source_log s word_bits 0 word ≡ []
  unfolding log_bytes
  no-log word e = rw (e, no-events s.number (kind_in s.form s.settings.now 0) s.suppressed s.time word_bits 0)

  module _ (word : ℕ) (some : 0 < word) (fits : word < 2 ^ word_bits) where
    abbrev first : List ℕ
    first = event_bytes (source_event s (count_trailing_zeros 32 word))

    abbrev others : List ℕ
    others = source_log s word_bits 0 (bit_and word (word - 1))

    first-log : source_log s word_bits 0 word ≡ first ++ others
    unfolding log_bytes
    first-log =
        ap log_bytes
        (rw zero-add at (first-event s.number (kind_in s.form s.settings.now 0) s.suppressed s.time 32 word_bits 0 word (omega arith) some fits))

    pub length-first : length (source_log s word_bits 0 word) ≡ 16 + length others
    length-first = omega (arith, ap length first-log, length-append first others, length-event (source_event s (count_trailing_zeros 32 word)))

    -- the record of the lowest bit is stored, and then those of the others
    pub sets-first : (out : List ℕ) (at : ℕ) → sets (sets out at first) (at + 16) others ≡ sets out at (source_log s word_bits 0 word)
    sets-first out at =
        ap (λ (n : ℕ). sets (sets out at first) (at + n) others) (sym (length-event (source_event s (count_trailing_zeros 32 word))))
        ∙ sets-append out at first others
        ∙ ap (sets out at) (sym first-log)
