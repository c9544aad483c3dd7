-- The words of an alarm, and what they say where they are copied to. Assumes nothing.
use mathlib.Core.List.{List, [], ◌∷◌, ◌++◌, append_assoc}
use mathlib.Core.Path.{◌≡◌, sym, ap, ◌∙◌}
use Prim.Native.Nat.{ℕ, ◌+◌, ◌≤◌, ◌<◌, ◌%◌}
use native.Mathlib.Omega.{arith}
use borrow.Rule.Slice.PartMut.{put_mid}
use lib.ListN.{length, take, drop}
use lib.Seq.{sets, sets-eq, drop-drop}
use lib.Ieee.{Float, binary32, of_bits, to_bits}
use Rattle.settings.specs.declared.types.Alarm.{Alarm}
use Rattle.settings.specs.declared.types.Limits.{Limits}
use Rattle.settings.specs.declared.types.Severities.{Severities}
use Rattle.settings.specs.declared.types.Form.TheVariants.{Digital as DigitalForm, Analog as AnalogForm}
use Rattle.layout.specs.Internal.Words.{lower_of, upper_of, pair_of, lower_real, upper_real, reals_of}
use Rattle.layout.specs.Internal.Words.{limits_in, severities_in, alarm_in, digital_of, analog_of}
use Rattle.layout.specs.Internal.Words.{form_of, digital_words, analog_words, alarm_words}
use Rattle.layout.proofs.Laws.{alarm-stored, length-alarm}

-- a run of words that is copied over those that stand there
pub copied-over : (ws : List ℕ) (at k : ℕ) (vs : List ℕ) {ys : List ℕ} → ys ≡ vs → length vs ≡ k → at + k ≤ length ws → put_mid at k ws ys ≡ sets ws at vs
copied-over ws at k vs e n h =
    rw (e, sets-eq vs ws at (omega arith), n)
    (ap (λ (l : List ℕ). take at ws ++ (vs ++ l)) (drop-drop k at ws) ∙ sym (append_assoc (take at ws) vs (drop (at + k) ws)))

-- a word that holds two numbers, or two REALs: what the code ensures of it
abbrev IsPair : ℕ → ℕ → ℕ → Type 0
IsPair w l h = (w ≡ pair_of l h) × (lower_of w ≡ l) × (upper_of w ≡ h)

abbrev IsReals : ℕ → Float → Float → Type 0
IsReals w x y = (w ≡ reals_of x y) × (lower_real w ≡ x) × (upper_real w ≡ y)

-- flags in a lower half are its lowest byte
lowest-of : (w : ℕ) {flags : ℕ} → lower_of w ≡ flags → flags < 256 → w % 256 ≡ flags
lowest-of w e h = omega arith

module _ {flags duration low first : ℕ} (small : flags < 256) (wide : low ≡ flags) (zeroth : IsPair first low duration) where
  pub digital-said : {severity word : ℕ} → IsPair word severity 0
      → (first ∷ 0 ∷ 0 ∷ 0 ∷ 0 ∷ word ∷ 0 ∷ 0 ∷ [] ≡ digital_words flags duration severity)
      × (alarm_in DigitalForm (first ∷ 0 ∷ 0 ∷ 0 ∷ 0 ∷ word ∷ 0 ∷ 0 ∷ []) 0 ≡ digital_of flags duration severity)
  unfolding digital_words alarm_in
  digital-said w = (rw (zeroth.0, w.0, wide), rw (lowest-of first (zeroth.1 ∙ wide) small, zeroth.2, w.1))

  pub analog-said : (g : Limits) (s : Severities) {period bits a b c d e f h : ℕ}
      → IsReals a g.hh g.h → IsReals b g.l g.ll → IsReals c g.deadband g.rocpos
      → (bits ≡ to_bits binary32 g.rocneg) × (of_bits binary32 bits ≡ g.rocneg) → IsPair d bits period
      → IsPair e s.hh s.h → IsPair f s.l s.ll → IsPair h s.rocpos s.rocneg
      → (first ∷ a ∷ b ∷ c ∷ d ∷ e ∷ f ∷ h ∷ [] ≡ analog_words flags duration g s period)
      × (alarm_in AnalogForm (first ∷ a ∷ b ∷ c ∷ d ∷ e ∷ f ∷ h ∷ []) 0 ≡ analog_of flags duration g s period)
  unfolding analog_words alarm_in limits_in severities_in
  analog-said g s a' b' c' n d' e' f' h' = (
    rw (zeroth.0, wide, a'.0, b'.0, c'.0, d'.0, n.0, e'.0, f'.0, h'.0),
    rw (lowest-of first (zeroth.1 ∙ wide) small, zeroth.2, a'.1, a'.2, b'.1, b'.2, c'.1, c'.2, d'.1, d'.2, n.1, e'.1, e'.2, f'.1, f'.2, h'.1, h'.2),
  )

-- the eight words of an alarm, copied to a place, say it there
module _ (a : Alarm) (ws : List ℕ) (at : ℕ) (room : at + 8 ≤ length ws) {ys : List ℕ} (e : ys ≡ alarm_words a) where
  pub alarm-copied : {k : ℕ} → k ≡ 8 → put_mid at k ws ys ≡ sets ws at (alarm_words a)
  alarm-copied n = rw n (copied-over ws at 8 (alarm_words a) e (length-alarm a) room)

  pub alarm-read : {us : List ℕ} → us ≡ sets ws at (alarm_words a) → alarm_in (form_of a.kind) ys 0 ≡ a → alarm_in (form_of a.kind) us at ≡ a
  alarm-read f said =
      ap (λ (k : List ℕ). alarm_in (form_of a.kind) k at) f
      ∙ alarm-stored (form_of a.kind) ws at (alarm_words a) room (length-alarm a)
      ∙ ap (λ (k : List ℕ). alarm_in (form_of a.kind) k 0) (sym e)
      ∙ said
