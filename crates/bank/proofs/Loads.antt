-- A loaded bank's words stand for the bank of its image, and are those of a bank. Assumes nothing.
use mathlib.Core.Path.{◌≡◌, refl, sym, ap₂, subst, ◌∙◌}
use mathlib.Core.List.{List}
use Prim.Native.Nat.{ℕ, zero, suc, ◌+◌, ◌≤◌, ◌<◌}
use native.Mathlib.Omega.{arith}
use borrow.Author.Tests.{ltb-true}
use lib.Dec.{T}
use lib.ListN.{length, get_or, replicate, length-replicate, get_or-replicate}
use lib.Pow.{are_bytes}
use lib.Seq.{ext_get_or}
use lib.Ieee.{binary32}
use lib.Ieee.Bits.{of_bits-fits}
use Rattle.wire.specs.Number.{number}
use Rattle.wire.proofs.Laws.{number_lt}
use Rattle.settings.specs.declared.types.Alarm.{Alarm}
use Rattle.settings.specs.declared.types.Settings.{Settings}
use Rattle.settings.specs.declared.types.Form.{Form}
use Rattle.settings.specs.declared.types.Form.TheVariants.{Digital as DigitalForm, Analog as AnalogForm}
use Rattle.std.proofs.Common.{Ok}
use Rattle.settings_record.specs.Record.{word_place, size_of, severities_at, limits_at, fields_at, record_at}
use Rattle.settings_record.proofs.Laws.{was_read}
use Rattle.layout.specs.Internal.Block.{placed, settings_in, settings_words, state_at}
use Rattle.layout.proofs.Laws.{length-placed, placed_below}
use Rattle.layout.proofs.Back.{Kept, digital-kept, Reals, analog-kept, block-is, settings-back}
use Rattle.reader.specs.Read.{in_full, settings_of}
use Rattle.reader.proofs.Settled.{settled}
use Rattle.reader.proofs.Full.{bytes-in-full}
use Rattle.state.specs.Internal.Held.{fresh_state}
use Rattle.state.specs.Internal.State.{State, state_in}
use Rattle.bank.specs.Internal.Bank.{fresh_bank, load_of}
use Rattle.bank.specs.Internal.Words.{fit_of, bank_in}
use Rattle.bank.specs.Internal.Load.{loaded_words}

-- ---- states of words that are 0

zero-at : (n i : ℕ) → ◌≡◌ {A = ℕ} (get_or (replicate n 0) i 0) 0
zero-at zero i = refl
zero-at (suc n) zero = refl
zero-at (suc n) (suc i) = zero-at n i

fresh_at : (at : ℕ) → state_in (replicate 580 0) at ≡ fresh_state
unfolding state_in
fresh_at at = simp (zero-at 580)

states-fresh : placed (λ p. state_in (replicate 580 0) (state_at p)) 24 (replicate 24 fresh_state) ≡ replicate 24 fresh_state
states-fresh =
    let f : ℕ → State = λ p. state_in (replicate 580 0) (state_at p) in
    let fresh = replicate 24 fresh_state in
    let n : length fresh ≡ 24 = length-replicate 24 fresh_state in
    ext_get_or fresh_state (placed f 24 fresh) fresh (length-placed f 24 fresh) (λ i h.
    let l : i < 24 = omega (arith, length-placed f 24 fresh) in
    placed_below f 24 i fresh fresh_state l (omega arith) ∙ fresh_at (state_at i) ∙ sym (get_or-replicate 24 i fresh_state fresh_state l))

-- ---- the alarms of an image of bytes

module _ (image : List ℕ) (b : T (are_bytes image)) where
  severity-lt : (at k : ℕ) → word_place at k + 4 ≤ length image → number image (word_place at k) 4 < 4294967296
  severity-lt at k h = number_lt image (word_place at k) 4 b h

  digital-alarm : (at : ℕ) → at + size_of DigitalForm ≤ length image → get_or image at 0 < 8 → Kept DigitalForm (fields_at DigitalForm image at)
  unfolding fields_at
  digital-alarm at h f = digital-kept (get_or image at 0) _ _ (omega arith) (severity-lt at 0 (omega arith))

  reals : (at : ℕ) → Reals (limits_at image at)
  unfolding limits_at
  reals at =
      record {
        hh = of_bits-fits binary32 (number image (word_place at 6) 4);
        h = of_bits-fits binary32 (number image (word_place at 7) 4);
        l = of_bits-fits binary32 (number image (word_place at 8) 4);
        ll = of_bits-fits binary32 (number image (word_place at 9) 4);
        deadband = of_bits-fits binary32 (number image (word_place at 10) 4);
        rocpos = of_bits-fits binary32 (number image (word_place at 11) 4);
        rocneg = of_bits-fits binary32 (number image (word_place at 12) 4);
      }

  analog-alarm : (at : ℕ) → at + size_of AnalogForm ≤ length image → get_or image at 0 < 32 → Kept AnalogForm (fields_at AnalogForm image at)
  unfolding fields_at severities_at
  analog-alarm at h f =
      analog-kept (get_or image at 0) _ (limits_at image at) (severities_at image at) _
      (omega arith) (reals at) (severity-lt at 0 (omega arith)) (severity-lt at 2 (omega arith)) (severity-lt at 4 (omega arith))

  -- an alarm that was read is said again by its words
  each : (form : Form) (at : ℕ) (a : Alarm) (next : ℕ) → record_at form image at ≡ Ok (a, next) → Kept form a
  unfolding fields_at
  each DigitalForm at a next e =
      let r = was_read DigitalForm image at e in
      subst (Kept DigitalForm) r.alarm (digital-alarm at r.whole (ltb-true _ 8 r.passed.0))
  each AnalogForm at a next e =
      let r = was_read AnalogForm image at e in
      subst (Kept AnalogForm) r.alarm (analog-alarm at r.whole (ltb-true _ 32 r.passed.0))

-- ---- settings from an image of bytes

module _ (image : List ℕ) (b : T (are_bytes image)) where
  pub loaded-settings : settings_in (settings_words (settings_of image)) ≡ (settings_of image)
  loaded-settings =
      let s = settled image Kept (each (in_full image) (bytes-in-full image b)) in
      settings-back (settings_of image) s.long (omega (arith, s.most)) s.read s.behind

  -- the words of a loaded bank stand for the bank of its image
  pub loaded-bank : bank_in (loaded_words image) ≡ load_of image
  unfolding bank_in loaded_words load_of fresh_bank
  loaded-bank =
      ap₂ (λ (s : Settings) (states : List State). record { settings = s; time = 0; states = states; marks = replicate 900 0 }) loaded-settings states-fresh

-- and are those of a bank
pub loaded-fits : (image : List ℕ) → fit_of (loaded_words image) ≡ Ok tt
unfolding fit_of loaded_words
loaded-fits image =
    let s = settled image (λ form a. Unit {0}) (λ form at a next e. tt) in
    rw (block-is (settings_of image) s.long)
