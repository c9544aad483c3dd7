-- What a bank keeps of an alarm is what its scans say: one scan. Assumes nothing.
use mathlib.Core.Path.{◌≡◌, refl, ap, ap₂, ◌∙◌}
use mathlib.Core.Bool.{Bool, false}
use mathlib.Core.List.{List, ◌∷◌}
use Prim.Native.Nat.{ℕ, ◌+◌, ◌*◌}
use lib.ListN.{get_or}
use Rattle.wire.specs.Bits.{bit}
use Rattle.wire.proofs.WordLaws.{bit_word}
use Rattle.wire.specs.Internal.Places.{condition_bit}
use Rattle.condition.specs.Command.{count_resets}
use Rattle.condition.specs.Internal.Mark.{Turn, marks_after, time_stamp_after}
use Rattle.settings.specs.Numbers.{Numbers, AnalogOf}
use Rattle.settings.specs.declared.types.Alarm.{Alarm}
use Rattle.state.specs.Internal.Held.{DigitalHeld, look_digital, Six, HH, H, L, LL, ROCPos, ROCNeg, place, AnalogHeld, Patterns, look_analog}
use Rattle.digital.specs.Internal.Digital.{digital_required, digital_after, digital_events, digital_step}
use Rattle.analog.specs.Internal.Analog.{analog_required, analog_after, analog_events, analog_step}
use Rattle.state.specs.Internal.State.{State, Stepped, starts_of}
use Rattle.state.proofs.Held.{look-digital}
use Rattle.alarm_history.specs.Scans.{Scan}
use Rattle.alarm_history.specs.Internal.After.{reset_kept, digital_run, analog_run, digital_turn, digital_marks, analog_turn, analog_marks}
use Rattle.marks.specs.Internal.Marks.{marks_at, turn_at}

-- ---- a digital alarm

-- its state and the words that begin at an offset are what the step keeps, scan by scan
pub record DigitalView (a : Alarm) (s : State) (words : List ℕ) (at : ℕ) (scans : List Scan) : Type 0 where
  pub held : look_digital s ≡ digital_run a scans
  pub marked : marks_at words (at + 1) ≡ digital_marks a scans
  pub stamped : get_or words at 0 ≡ reset_kept (λ past. (digital_run a past).previous) scans

module _ (a : Alarm) (s : State) (x : Scan) where
  abbrev digital_stepped : Stepped
  digital_stepped = digital_step a s x.reading x.word x.time

  abbrev digital-bits : List Bool
  digital-bits = digital_events a x.reading x.word x.time (look_digital s)

  digital-bit : (k : ℕ) → bit digital_stepped.events k ≡ get_or digital-bits k false
  unfolding digital_step
  digital-bit k = bit_word digital-bits k

  digital-turn : turn_at (digital_required a.flags) (starts_of digital_stepped.state) digital_stepped.events x.time 0 ≡ digital_turn a x (look_digital s)
  unfolding digital_step
  digital-turn = rw (digital-bit 4, digital-bit (condition_bit 0 0), digital-bit (condition_bit 0 1), digital-bit (condition_bit 0 2)) refl

  pub digital-view : (words words' : List ℕ) (at : ℕ) (past : List Scan) → DigitalView a s words at past
      → marks_at words' (at + 1)
      ≡ marks_after (turn_at (digital_required a.flags) (starts_of digital_stepped.state) digital_stepped.events x.time 0) (marks_at words (at + 1))
      → get_or words' at 0 ≡ time_stamp_after (bit digital_stepped.events 4) x.time (get_or words at 0)
      → DigitalView a digital_stepped.state words' at (x ∷ past)
  unfolding digital_run digital_marks reset_kept digital_step
  digital-view words words' at past v m r =
      record {
        held =
            look-digital s (digital_after a x.reading x.word x.time (look_digital s)) ∙ ap (digital_after a x.reading x.word x.time) v.held;
        marked = m ∙ ap₂ marks_after (digital-turn ∙ ap (digital_turn a x) v.held) v.marked;
        stamped = r
            ∙ ap (λ (b : Bool). time_stamp_after b x.time (get_or words at 0)) (digital-bit 4)
            ∙ ap₂ (λ (d : DigitalHeld) (t : ℕ). time_stamp_after (count_resets x.word d.previous) x.time t) v.held v.stamped;
      }

-- ---- an analog alarm, of any form of numbers

pub record AnalogView {X : Type 0} (n : Numbers X) (q : Patterns X) (a : AnalogOf X) (s : State) (words : List ℕ) (at : ℕ) (scans : List Scan) : Type 0 where
  pub held : look_analog q s ≡ analog_run n a scans
  pub marked : (c : Six) → marks_at words (at + 1 + 4 * place c) ≡ analog_marks n a scans c
  pub stamped : get_or words at 0 ≡ reset_kept (λ past. (analog_run n a past).previous) scans

module _ {X : Type 0} (n : Numbers X) (q : Patterns X) (a : AnalogOf X) (s : State) (x : Scan) where
  abbrev analog_stepped : Stepped
  analog_stepped = analog_step n q a s x.reading x.word x.time

  -- the state after the scan, readable
  abbrev pub analog_next : AnalogHeld X
  analog_next = analog_after n a x.reading x.word x.time (look_analog q s)

  abbrev analog-bits : List Bool
  analog-bits = analog_events n a x.reading x.word x.time (look_analog q s)

  analog-bit : (k : ℕ) → bit analog_stepped.events k ≡ get_or analog-bits k false
  unfolding analog_step
  analog-bit k = bit_word analog-bits k

  -- what the scan did to a condition, by the event word
  abbrev pub turn_bits : Six → Turn
  turn_bits c = turn_at (analog_required a.flags) (starts_of analog_stepped.state) analog_stepped.events x.time (place c)

  analog-turn : (c : Six) → turn_bits c ≡ analog_turn n a x (look_analog q s) c
  unfolding analog_step
  analog-turn HH = rw (analog-bit 4, analog-bit (condition_bit 0 0), analog-bit (condition_bit 0 1), analog-bit (condition_bit 0 2)) refl
  analog-turn H = rw (analog-bit 4, analog-bit (condition_bit 1 0), analog-bit (condition_bit 1 1), analog-bit (condition_bit 1 2)) refl
  analog-turn L = rw (analog-bit 4, analog-bit (condition_bit 2 0), analog-bit (condition_bit 2 1), analog-bit (condition_bit 2 2)) refl
  analog-turn LL = rw (analog-bit 4, analog-bit (condition_bit 3 0), analog-bit (condition_bit 3 1), analog-bit (condition_bit 3 2)) refl
  analog-turn ROCPos = rw (analog-bit 4, analog-bit (condition_bit 4 0), analog-bit (condition_bit 4 1), analog-bit (condition_bit 4 2)) refl
  analog-turn ROCNeg = rw (analog-bit 4, analog-bit (condition_bit 5 0), analog-bit (condition_bit 5 1), analog-bit (condition_bit 5 2)) refl

  -- where what the step packs is read back
  pub analog-view : look_analog q analog_stepped.state ≡ analog_next → (words words' : List ℕ) (at : ℕ) (past : List Scan) → AnalogView n q a s words at past
      → ((c : Six) → marks_at words' (at + 1 + 4 * place c) ≡ marks_after (turn_bits c) (marks_at words (at + 1 + 4 * place c)))
      → get_or words' at 0 ≡ time_stamp_after (bit analog_stepped.events 4) x.time (get_or words at 0)
      → AnalogView n q a analog_stepped.state words' at (x ∷ past)
  unfolding analog_run analog_marks reset_kept
  analog-view f words words' at past v m r =
      record {
        held = f ∙ ap (analog_after n a x.reading x.word x.time) v.held;
        marked = λ c. m c ∙ ap₂ marks_after (analog-turn c ∙ ap (λ (h : AnalogHeld X). analog_turn n a x h c) v.held) (v.marked c);
        stamped = r
            ∙ ap (λ (b : Bool). time_stamp_after b x.time (get_or words at 0)) (analog-bit 4)
            ∙ ap₂ (λ (h : AnalogHeld X) (t : ℕ). time_stamp_after (count_resets x.word h.previous) x.time t) v.held v.stamped;
      }
