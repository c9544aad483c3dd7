-- A digital step on words, put together. Assumes nothing.
use mathlib.Core.Path.{◌≡◌, refl, ap, ◌∙◌, sym}
use mathlib.Core.Bool.{Bool, true, false, and-false, cond}
use mathlib.Core.List.{List, ◌++◌, [], ◌∷◌}
use Prim.Native.Nat.{ℕ, ◌+◌, ◌*◌, ◌/◌, ◌%◌, suc}
use lib.ListN.{get_or, set}
use Rattle.wire.specs.Bits.{bit}
use Rattle.wire.specs.Internal.Words.{word_of}
use Rattle.wire.proofs.WordLaws.{word-halves, word-join, bit-digit}
use Rattle.wire.specs.Internal.Places.{free_flags, free_events, condition_unit, condition_bit}
use Rattle.condition.specs.Internal.Outcome.{outcome_bits}
use native.Mathlib.Omega.{arith}
use Rattle.settings.specs.declared.types.Alarm.{Alarm}
use Rattle.settings.specs.declared.types.Reading.{Reading}
use Rattle.condition.specs.Internal.Mode.{mode_bits}
use lib.Seq.{sets, set-get_or, set_comm, get_or-set_other}
use Rattle.layout.specs.Internal.Words.{lower_of, upper_of, pair_of}
use Rattle.level.specs.Level.{bit_met}
use Rattle.state.specs.Internal.State.{State, state_words, state_in}
use Rattle.state.specs.Internal.Held.{DigitalHeld, look_digital, digital_flags, hide_digital}
use Rattle.digital.specs.Internal.Digital.{digital_told, digital_after, digital_events, digital_step, rest_flags}
use Rattle.layout.proofs.Stay.{pair-back, copied, stay, n1, n2, n3, n4, n6, n7, n8, n9, n10}

-- modes, what a digital alarm does not use, and one condition
flags-join : (d s f a u r : Bool) → word_of (d ∷ s ∷ f ∷ []) + condition_unit * word_of (a ∷ u ∷ r ∷ [])
    ≡ word_of (d ∷ s ∷ f ∷ false ∷ false ∷ false ∷ free_flags (a ∷ u ∷ r ∷ []))
unfolding word_of
flags-join d s f a u r = omega arith

module _ (a : Alarm) (s : State) (x : Reading) (word time : ℕ) {m c : ℕ}
    (p : m ≡ word_of (mode_bits (bit s.flags 0) (bit s.flags 1) word s.previous))
    (q : c ≡ word_of (outcome_bits (digital_told a x word time (look_digital s)) (bit s.flags (condition_bit 0 0)) (bit s.flags (condition_bit 0 1)))) where
  pub digital-flags : m % 8 + condition_unit * (c % 8) ≡ word_of (digital_flags (digital_after a x word time (look_digital s)))
  unfolding mode_bits
  digital-flags = rw ((word-halves _ _ _ _ p).0, (word-halves _ _ _ _ q).0) (flags-join _ _ _ _ _ _)

  pub digital-events : m / 8 + condition_unit * (c / 8) ≡ word_of (digital_events a x word time (look_digital s))
  unfolding mode_bits
  digital-events = word-join (_ ∷ _ ∷ _ ∷ _ ∷ _ ∷ free_events) _ (word-halves _ _ _ _ p).1 (word-halves _ _ _ _ q).1

-- the first word, and the sixth
pub digital-stored : (ws : List ℕ) (at first start : ℕ) → set (set ws at first) (at + 5) start
    ≡ sets ws at (first ∷ (copied ws (suc at) 4 ++ (start ∷ (copied ws (suc (suc (suc (suc (suc (suc at)))))) 5 ++ []))))
digital-stored ws at first start =
    let l : List ℕ = set ws at first in
    let five : ℕ = suc (suc (suc (suc (suc at)))) in
    let m : List ℕ = set l five start in
    let n : five ≡ at + 5 = omega arith in
    let n' : 4 + suc at ≡ five = omega arith in
    sym
    (stay 4 ws l (suc at) (start ∷ (copied ws (suc five) 5 ++ [])) (λ k g. get_or-set_other ws at k first 0 (λ e. omega arith))
    ∙ ap (λ (k : ℕ). sets l k (start ∷ (copied ws (suc five) 5 ++ []))) n'
    ∙ stay 5 ws m (suc five) [] (λ k g. get_or-set_other l five k start 0 (λ e. omega arith) ∙ get_or-set_other ws at k first 0 (λ e. omega arith))
    ∙ ap (λ (k : ℕ). set l k start) n)

-- the words of a digital alarm: the first and the sixth are new
pub digital-words : (ws : List ℕ) (at : ℕ) (d : DigitalHeld) → state_words (hide_digital (state_in ws at) d)
    ≡ pair_of (word_of (digital_flags d)) d.previous ∷ (copied ws (suc at) 4 ++ (d.cell.start ∷ (copied ws (suc (suc (suc (suc (suc (suc at)))))) 5 ++ [])))
unfolding state_words state_in copied
digital-words ws at d = rw (n1 at, n2 at, n3 at, n4 at, n6 at, n7 at, n8 at, n9 at, n10 at, pair-back (get_or ws (suc at) 0))

pub digital-done : (ws : List ℕ) (at : ℕ) (d : DigitalHeld) {l : List ℕ} {first start : ℕ} → l ≡ set ws (at + 5) start → start ≡ d.cell.start
    → first ≡ pair_of (word_of (digital_flags d)) d.previous → set l at first ≡ sets ws at (state_words (hide_digital (state_in ws at) d))
digital-done ws at d {l} {first} {start} e b f =
    ap (λ (m : List ℕ). set m at first) e
    ∙ set_comm ws (at + 5) at start first (λ z. omega arith)
    ∙ digital-stored ws at first start
    ∙ (λ i. sets ws at (f i ∷ (copied ws (suc at) 4 ++ (b i ∷ (copied ws (suc (suc (suc (suc (suc (suc at)))))) 5 ++ [])))))
    ∙ ap (sets ws at) (sym (digital-words ws at d))

-- no command, and nothing but in alarm and in a row where the condition is met, acknowledged or not: start and flags stay, and there are no
-- events
digital-rests : (a : Alarm) (s : State) (x : Reading) (word time : ℕ) (m u : Bool) → bit_met a.flags x ≡ m → word ≡ 0
    → s.flags ≡ rest_flags m (cond u 1 0)
    → (s.hh ≡ (digital_after a x word time (look_digital s)).cell.start) × (s.flags ≡ word_of (digital_flags (digital_after a x word time (look_digital s))))
    × (0 ≡ word_of (digital_events a x word time (look_digital s)))
unfolding word_of
digital-rests a s x word time true true e w f = rw (e, w, f) (refl, simp and-false, simp and-false)
digital-rests a s x word time true false e w f = rw (e, w, f) (refl, simp and-false, simp and-false)
digital-rests a s x word time false true e w f = rw (e, w, f) (refl, simp and-false, refl)
digital-rests a s x word time false false e w f = rw (e, w, f) (refl, simp and-false, refl)

-- such a word has nothing in its upper half
rest-halves : (m : Bool) {w : ℕ} → w ≡ rest_flags m (w / (2 * condition_unit) % 2) → (lower_of w ≡ w) × (upper_of w ≡ 0)
rest-halves true e = (omega arith, omega arith)
rest-halves false e = (omega arith, omega arith)

-- its words stay
pub digital-rest-done : (a : Alarm) (ws : List ℕ) (at : ℕ) (x : Reading) (word time : ℕ) {m : Bool} → m ≡ bit_met a.flags x → word ≡ 0
    → get_or ws at 0 ≡ rest_flags m (get_or ws at 0 / (2 * condition_unit) % 2)
    → (0 ≡ (digital_step a (state_in ws at) x word time).events) × (ws ≡ sets ws at (state_words (digital_step a (state_in ws at) x word time).state))
unfolding digital_step state_in
digital-rest-done a ws at x word time {m} e w f =
    let s : State = state_in ws at in
    let first : ℕ = get_or ws at 0 in
    let halves = rest-halves m f in
    let rests = digital-rests a s x word time m (bit first (condition_bit 0 1)) (sym e) w (halves.0 ∙ f
    ∙ ap (rest_flags m) (sym (bit-digit first (condition_bit 0 1)))) in
    let kept : first ≡ pair_of (word_of (digital_flags (digital_after a x word time (look_digital s)))) word =
    sym (pair-back first) ∙ (λ i. pair_of (rests.1 i) ((halves.1 ∙ sym w) i))
    in (
      rests.2,
      sym (set-get_or ws at 0) ∙ digital-done ws at (digital_after a x word time (look_digital s)) (sym (set-get_or ws (at + 5) 0)) rests.0 kept,
    )
