-- The settings block as it is written: zeros, the head, then alarm by alarm. Assumes nothing.
use mathlib.Core.List.{List, ◌++◌}
use mathlib.Core.Path.{◌≡◌, refl, ap, ◌∙◌}
use Prim.Native.Nat.{ℕ, ◌+◌, ◌≤◌, ◌<◌}
use native.Mathlib.Numerals.{add-one}
use native.Mathlib.Omega.{arith}
use lib.ListN.{length, get_or, drop, replicate, length-replicate, drop_of_length-le}
use lib.Seq.{sets, sets-eq, drop-cons}
use Rattle.wire.proofs.Laws.{below, sets-append}
use Rattle.settings.specs.Alarm.{blank}
use Rattle.settings.specs.declared.types.Alarm.{Alarm}
use Rattle.settings.specs.declared.types.Settings.{Settings}
use Rattle.layout.specs.Internal.Words.{form_of, alarm_in, alarm_words}
use Rattle.layout.specs.Internal.Block.{layout_word, alarm_at, head_words, alarms_words, settings_words, Says, counts_in}
use Rattle.layout.proofs.Laws.{length-alarm, length-alarms, place-below}

-- ---- alarms, place by place

module _ (alarms : List Alarm) where
  -- the words of the alarms from a place on
  abbrev pub from : ℕ → List ℕ
  from p = alarms_words (drop p alarms)

  from_first : (p : ℕ) → p < length alarms → from p ≡ alarm_words (get_or alarms p blank) ++ from (p + 1)
  unfolding alarms_words
  from_first p h = ap alarms_words (drop-cons alarms p blank h) ∙ rw add-one

  -- writing an alarm and then those behind it is writing all
  pub alarms-next : (ws : List ℕ) (p : ℕ) {us : List ℕ} → p < length alarms → us ≡ sets ws (alarm_at p) (alarm_words (get_or alarms p blank))
      → sets us (alarm_at (p + 1)) (from (p + 1)) ≡ sets ws (alarm_at p) (from p)
  alarms-next ws p h e =
      let x = alarm_words (get_or alarms p blank) in
      let n : alarm_at (p + 1) ≡ alarm_at p + length x = omega (arith, length-alarm (get_or alarms p blank)) in
      rw (e, n, from_first p h) (sets-append ws (alarm_at p) x (from (p + 1)))

  pub alarms-none : (ws : List ℕ) (p : ℕ) → length alarms ≤ p → sets ws (alarm_at p) (from p) ≡ ws
  unfolding alarms_words
  alarms-none ws p h = rw (drop_of_length-le alarms h)

  -- one alarm more is said
  pub said-next : (ws : List ℕ) (n : ℕ) (us : List ℕ) → Says alarms n ws → us ≡ sets ws (alarm_at n) (alarm_words (get_or alarms n blank))
      → alarm_in (form_of (get_or alarms n blank).kind) us (alarm_at n) ≡ get_or alarms n blank → Says alarms (n + 1) us
  said-next ws n us old e back p m =
      below (λ (q : ℕ). alarm_in (form_of (get_or alarms q blank).kind) us (alarm_at q) ≡ get_or alarms q blank) (omega arith) back
      (λ k. rw e (place-below (form_of (get_or alarms p blank).kind) ws n p (get_or alarms n blank) k) ∙ old p k)

-- ---- the whole block

pub block-whole : (s : Settings) {us vs ws : List ℕ} → length s.alarms ≡ 24 → us ≡ replicate 292 0
    → vs ≡ sets us 0 (head_words s.counts) → ws ≡ sets vs 4 (alarms_words s.alarms) → ws ≡ settings_words s
unfolding settings_words
block-whole s {us} {vs} {ws} n e f g =
    let head = head_words s.counts in
    let all = head ++ alarms_words s.alarms in
    let m : length all ≡ 196 = omega (arith, length-alarms s.alarms) in
    let long : length us ≡ 292 = ap length e ∙ length-replicate {A = ℕ} 292 0 in
    let w : ws ≡ sets us 0 all = g ∙ rw f (sets-append us 0 head (alarms_words s.alarms)) in
    let fits : 0 + length all ≤ length us = omega arith in
    let z : 0 + length all ≡ 196 = omega arith in
    w ∙ sets-eq all us 0 fits ∙ rw (z, e)

-- the first words of the block
pub block-head : (s : Settings) {ws : List ℕ} → ws ≡ settings_words s
    → (get_or ws 0 0 ≡ layout_word) × (counts_in ws ≡ s.counts)
unfolding settings_words
block-head s e = rw e (refl, refl)
