-- The bytes of a record that was read are those that it was read from. Assumes nothing.
use mathlib.Core.Path.{◌≡◌, sym, ap, ◌∙◌}
use mathlib.Core.List.{List, [], ◌∷◌, ◌++◌}
use mathlib.Core.Bool.{true}
use Prim.Native.Nat.{ℕ, suc, ◌+◌, ◌*◌, ◌≤◌}
use native.Mathlib.Nat.{add_assoc}
use native.Mathlib.Numerals.{add-one}
use native.Mathlib.Omega.{arith}
use lib.Dec.{T}
use lib.ListN.{length, get_or}
use lib.Pow.{are_bytes}
use lib.Ieee.{binary32, to_bits}
use Rattle.wire.specs.Number.{number, part}
use Rattle.wire.specs.Internal.Words.{words}
use Rattle.wire.specs.Real.{bounded, real_at}
use Rattle.wire.proofs.Laws.{part-suc, words_at, words_back, number_lt}
use Rattle.wire.proofs.Reals.{pattern-back}
use Rattle.settings_record.proofs.Laws.{was_read}
use Rattle.settings_record.proofs.Sound.{sound}
use Rattle.settings_record.specs.Record.{word_place, size_of, severities_at, limits_at, fields_at, record_at}
use Rattle.image.specs.Internal.Write.{severity_words, limit_words, digital_bytes, analog_bytes, kind_bytes, record_bytes}
use Rattle.settings.specs.Internal.Sound.{BoundedReals, SoundAlarm}
use Rattle.settings.specs.declared.types.Alarm.{Alarm}
use Rattle.settings.specs.declared.types.Form.{Form}
use Rattle.settings.specs.declared.types.Form.TheVariants.{Digital as DigitalForm, Analog as AnalogForm}
use Rattle.std.proofs.Common.{Ok}

-- what is known of a record that was read: where it ends, that it is there whole, and its bytes
pub record Inverse (form : Form) (image : List ℕ) (at : ℕ) (a : Alarm) (next : ℕ) : Type 0 where
  pub past : next ≡ at + size_of form
  pub whole : next ≤ length image
  pub bytes : record_bytes form a ≡ part image at (size_of form)

module _ (image : List ℕ) (b : T (are_bytes image)) (at : ℕ) where
  -- a byte and k words
  record-part : (k : ℕ) → at + (1 + 4 * k) ≤ length image → get_or image at 0 ∷ words (words_at image (at + 1) k) ≡ part image at (suc (4 * k))
  record-part k h =
      ap (λ (l : List ℕ). get_or image at 0 ∷ l) (words_back image b (at + 1) k (omega arith) ∙ rw add-one)
      ∙ sym (part-suc image at (4 * k) (omega arith))

  digital-bytes : at + size_of DigitalForm ≤ length image → record_bytes DigitalForm (fields_at DigitalForm image at) ≡ part image at (size_of DigitalForm)
  unfolding fields_at kind_bytes digital_bytes words_at
  digital-bytes h = rw (← add_assoc at 1 4) (record-part 2 h)

  real-back : (k : ℕ) → word_place at k + 4 ≤ length image → bounded (real_at image (word_place at k)) ≡ true
      → to_bits binary32 (real_at image (word_place at k)) ≡ number image (word_place at k) 4
  real-back k h e = pattern-back (number image (word_place at k) 4) (number_lt image (word_place at k) 4 b h) e

  -- the words of an analog record: each REAL's pattern is the number that it was read from
  analog-words : at + size_of AnalogForm ≤ length image → BoundedReals (limits_at image at)
      → severity_words (severities_at image at) ++ (limit_words (limits_at image at)
      ++ (number image (word_place at 13) 4 ∷ number image (word_place at 14) 4 ∷ []))
      ≡ words_at image (word_place at 0) 15
  unfolding severities_at limits_at words_at
  analog-words h g =
      rw (
        real-back 6 (omega arith) g.hh,
        real-back 7 (omega arith) g.h,
        real-back 8 (omega arith) g.l,
        real-back 9 (omega arith) g.ll,
        real-back 10 (omega arith) g.deadband,
        real-back 11 (omega arith) g.rocpos,
        real-back 12 (omega arith) g.rocneg,
      )
      (simp add_assoc)

  analog-bytes : at + size_of AnalogForm ≤ length image → BoundedReals (limits_at image at)
      → record_bytes AnalogForm (fields_at AnalogForm image at) ≡ part image at (size_of AnalogForm)
  unfolding fields_at kind_bytes analog_bytes
  analog-bytes h g = ap (λ (l : List ℕ). get_or image at 0 ∷ words l) (analog-words h g) ∙ record-part 15 h

  analog-bounded : {a : Alarm} → fields_at AnalogForm image at ≡ a → SoundAlarm AnalogForm a → BoundedReals (limits_at image at)
  unfolding fields_at
  analog-bounded e s = (rw (← e) at s).within

-- of a record of either form
module _ (image : List ℕ) (b : T (are_bytes image)) (at : ℕ) {a : Alarm} {next : ℕ} where
  record-bytes : (form : Form) → record_at form image at ≡ Ok (a, next) → record_bytes form a ≡ part image at (size_of form)
  record-bytes DigitalForm e =
      let r = was_read DigitalForm image at e in
      rw (← r.alarm) (digital-bytes image b at r.whole)
  record-bytes AnalogForm e =
      let r = was_read AnalogForm image at e in
      rw (← r.alarm) (analog-bytes image b at r.whole (analog-bounded image b at r.alarm (sound AnalogForm image at e)))

pub inverse : (form : Form) (image : List ℕ) → T (are_bytes image) → (at : ℕ) {a : Alarm} {next : ℕ} → record_at form image at ≡ Ok (a, next)
    → Inverse form image at a next
inverse form image b at e =
    let r = was_read form image at e in
    record { past = r.past; whole = omega (arith, r.whole, r.past); bytes = record-bytes image b at form e }
