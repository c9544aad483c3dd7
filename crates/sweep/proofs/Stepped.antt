-- The words of an alarm that was stepped. Assumes nothing.
use mathlib.Core.Bool.{Bool}
use mathlib.Core.Path.{◌≡◌, ap, ◌∙◌}
use mathlib.Core.List.{List, [], ◌∷◌, ◌++◌}
use Prim.Native.Nat.{ℕ, ◌+◌, ◌*◌, ◌≤◌}
use native.Mathlib.Omega.{arith}
use lib.Ieee.{Float, binary32}
use lib.Ieee.Bits.{of_bits-fits}
use Rattle.std.proofs.lemmas.List.{drop-take}
use lib.ListN.{length, get_or, take, drop}
use lib.Seq.{sets, length-sets, drop-drop}
use Rattle.settings.specs.Internal.Reals.{real_analog}
use Rattle.wire.specs.Bits.{bit}
use Rattle.wire.specs.Real.{real_at}
use Rattle.wire.specs.Number.{number, part as cut}
use Rattle.wire.specs.Internal.Places.{word_bits}
use Rattle.settings.specs.Counts.{form_at}
use Rattle.settings.specs.Alarm.{ack_required}
use Rattle.settings.specs.Numbers.{reals}
use Rattle.settings.specs.declared.types.Alarm.{Alarm}
use Rattle.settings.specs.declared.types.Form.{Form}
use Rattle.settings.specs.declared.types.Form.TheVariants.{Digital, Analog}
use Rattle.settings.specs.declared.types.Reading.{Reading}
use Rattle.settings.specs.declared.types.Reading.TheVariants.{Level}
use Rattle.layout.specs.Internal.Words.{lower_of, alarm_in, kind_in}
use Rattle.layout.specs.Internal.Block.{alarm_at, counts_in, state_at}
use Rattle.scan_record.specs.Part.{time_of, reading_at, word_at}
use Rattle.event.specs.Event.{log_bytes}
use Rattle.state.specs.Internal.Held.{look_digital, real_patterns, look_analog}
use Rattle.digital.specs.Internal.Digital.{digital_events, digital_step}
use Rattle.analog.specs.Internal.Analog.{analog_events, analog_step}
use Rattle.event.specs.Internal.Events.{events_from}
use Rattle.event.specs.Internal.Bits.{events_of}
use Rattle.state.specs.Internal.State.{State, Stepped, starts_of, state_in, state_words}
use Rattle.sweep.specs.Internal.Step.{step_kind}
use Rattle.layout.proofs.Laws.{alarm-cut, part-put}
use Rattle.state.proofs.Back.{Small, small-in, state-cut, put_back, eleven}
use Rattle.digital.proofs.Laws.{small-digital}
use Rattle.analog.proofs.Laws.{small-analog}
use Rattle.event.proofs.Logs.{events-bits}
use Rattle.marks.specs.Internal.Marks.{starts_in, mark_alarm}
use Rattle.marks.proofs.Lengths.{length-alarm}
use Rattle.marks.proofs.Parts.{starts-part}
use Rattle.bank.specs.Lent.{Words}
use Rattle.sweep.specs.Internal.Sweep.{alarm_events, alarm_marks, state_log, state_marks, place_step, place_states, place_log, place_marks, part_at, step_on}
use Rattle.sweep.specs.Internal.Part.{log_of, marks_of, part_step, part_states, part_log, part_marks}
use Rattle.sweep.specs.declared.part.Scan.{Scan}
use Rattle.sweep.specs.declared.part.Part.{Part}

-- the starts among the words
pub starts-in : (ws : List ℕ) (at : ℕ) → starts_in ws (at + 5) ≡ starts_of (state_in ws at)
unfolding state_in
starts-in ws at =
    let n6 : at + 5 + 1 ≡ at + 6 = omega arith in
    let n7 : at + 5 + 2 ≡ at + 7 = omega arith in
    let n8 : at + 5 + 3 ≡ at + 8 = omega arith in
    let n9 : at + 5 + 4 ≡ at + 9 = omega arith in
    let n10 : at + 5 + 5 ≡ at + 10 = omega arith in
    λ i. get_or ws (at + 5) 0 ∷ get_or ws (n6 i) 0 ∷ get_or ws (n7 i) 0 ∷ get_or ws (n8 i) 0 ∷ get_or ws (n9 i) 0 ∷ get_or ws (n10 i) 0 ∷ []

module _ (settings states rec : List ℕ) (at p time : ℕ) where
  small : (form : Form) → Small (place_step form settings states rec at p time).state
  unfolding place_step step_kind alarm_in
  small Digital =
      small-digital (state_in states (state_at p)) (reading_at Digital rec at) (word_at Digital rec at) time (small-in states (state_at p))
      (alarm_in Digital settings (alarm_at p))
  small Analog =
      small-analog (state_in states (state_at p)) (reading_at Analog rec at) (word_at Analog rec at) time (small-in states (state_at p))
      (real_analog (alarm_in Analog settings (alarm_at p))) (of_bits-fits binary32 (number rec at 4))

module _ (scan : Scan) (part : Part) (states : List ℕ) where
  module _ (n : length states ≡ 580) where
    -- what is stored is read back
    back : state_in (part_states scan part states) (state_at part.place.index) ≡ (part_step scan part states).state
    unfolding place_states
    back =
        put_back states (state_at part.place.index) (part_step scan part states).state (omega (arith, part.place.below))
        (small scan.settings.now states part.bytes.now part.at part.place.index scan.time part.form)

    module _ {kept : List ℕ} {word : ℕ} (k : kept ≡ part_states scan part states) (e : word ≡ (part_step scan part states).events) where
      kept_back : state_in kept (state_at part.place.index) ≡ (part_step scan part states).state
      kept_back = ap (λ (ws : List ℕ). state_in ws (state_at part.place.index)) k ∙ back

      pub log_back : log_of scan part kept word ≡ part_log scan part states
      unfolding state_log place_log
      log_back =
          λ i. log_bytes (alarm_events (part.place.index + 1) (alarm_in part.form scan.settings.now (alarm_at part.place.index)) (kept_back i) (e i) scan.time)

      pub marks-back : (marks : List ℕ) → marks_of scan part kept word marks ≡ part_marks scan part states marks
      unfolding state_marks place_marks
      marks-back marks =
          λ i. alarm_marks part.place.index (alarm_in part.form scan.settings.now (alarm_at part.place.index)) (kept_back i) (e i) scan.time marks

  -- ---- no length changes

  pub states-length : length (part_states scan part states) ≡ length states
  unfolding place_states
  states-length = length-sets states (state_at part.place.index) (state_words (part_step scan part states).state)

  pub marks-length : (word : ℕ) (marks : List ℕ) → length (marks_of scan part states word marks) ≡ length marks
  unfolding state_marks
  marks-length word marks =
      let alarm = alarm_in part.form scan.settings.now (alarm_at part.place.index) in
      length-alarm (ack_required alarm.kind alarm.flags) (starts_of (state_in states (state_at part.place.index))) word scan.time (25 * part.place.index) marks

  -- ---- the same from the words that the code cuts out

  abbrev p : ℕ
  p = part.place.index

  -- the words behind an offset begin with the state, and end with it stepped
  module _ {at : ℕ} {front behind : List ℕ} (a : at ≡ state_at p) (f : front ≡ take at states) (b : behind ≡ drop at states) where
    pub state-cut-out : {state : List ℕ} → state ≡ take 11 behind → state ≡ cut states (state_at p) 11
    state-cut-out s = s ∙ ap (take 11) (b ∙ ap (λ (k : ℕ). drop k states) a)

    pub state-put : (t : State) {new : List ℕ} → length states ≡ 580 → new ≡ state_words t
        → front ++ (new ++ drop 11 behind) ≡ sets states (state_at p) (state_words t)
    state-put t h n =
        part-put states (state_words t) (state_at p) 11 (omega (arith, part.place.below)) (eleven t) (f ∙ ap (λ (k : ℕ). take k states) a)
        (b ∙ ap (λ (k : ℕ). drop k states) a) n

  module _ {own state : List ℕ} (o : own ≡ cut scan.settings.now (alarm_at p) 8) (s : state ≡ cut states (state_at p) 11) where
    pub alarm-is : (form : Form) → alarm_in form own 0 ≡ alarm_in form scan.settings.now (alarm_at p)
    alarm-is form = ap (λ (l : List ℕ). alarm_in form l 0) o ∙ alarm-cut form scan.settings.now (alarm_at p)

    pub state-is : state_in state 0 ≡ state_in states (state_at p)
    state-is = ap (λ (l : List ℕ). state_in l 0) s ∙ state-cut states (state_at p)

    -- the step, by the form
    abbrev step : Form → Stepped
    step form = place_step form scan.settings.now states part.bytes.now part.at p scan.time

    pub digital-is : {word : ℕ} → word ≡ word_at Digital part.bytes.now part.at
        → digital_step (alarm_in Digital own 0) (state_in state 0) (reading_at Digital part.bytes.now part.at) word scan.time ≡ step Digital
    unfolding place_step step_kind alarm_in
    digital-is w = λ i. digital_step (alarm-is Digital i) (state-is i) (reading_at Digital part.bytes.now part.at) (w i) scan.time

    pub analog-is : {x : Float} {word : ℕ} → x ≡ real_at part.bytes.now part.at → word ≡ word_at Analog part.bytes.now part.at
        → analog_step reals real_patterns (real_analog (alarm_in Analog own 0)) (state_in state 0) (Level x) word scan.time ≡ step Analog
    unfolding place_step step_kind alarm_in
    analog-is x w = λ i. analog_step reals real_patterns (real_analog (alarm-is Analog i)) (state-is i) (Level (x i)) (w i) scan.time

    module _ (word : ℕ) where
      pub log-same : {number : ℕ} {suppressed : Bool} → number ≡ p + 1 → suppressed ≡ bit (lower_of (get_or state 0 0)) 1
          → log_bytes (events_of number (kind_in part.form own 0) suppressed scan.time word_bits 0 word) ≡ log_of scan part states word
      unfolding state_log state_in alarm_in
      log-same n b =
          λ i. log_bytes (events_of (n i) (alarm-is part.form i).kind ((b ∙ ap (λ (t : State). bit t.flags 1) state-is) i) scan.time word_bits 0 word)

      pub marks-same : {required : Bool} {starts : List ℕ} → required ≡ ack_required (alarm_in part.form own 0).kind (alarm_in part.form own 0).flags
          → starts ≡ drop 5 state → state_at p + 11 ≤ length states → (marks : List ℕ)
          → mark_alarm required starts word scan.time (25 * p) marks ≡ marks_of scan part states word marks
      unfolding state_marks
      marks-same r b h marks =
          let q = r ∙ (λ i. ack_required (alarm-is part.form i).kind (alarm-is part.form i).flags) in
          let six = ap (drop 5) s ∙ drop-take 5 6 (drop (state_at p) states) ∙ ap (take 6) (drop-drop 5 (state_at p) states)
          ∙ starts-part states (state_at p + 5) (omega arith) ∙ starts-in states (state_at p) in
          λ i. mark_alarm (q i) ((b ∙ six) i) word scan.time (25 * p) marks

-- of the step at a place
pub small-on : (w : Words) (rec : List ℕ) (p : ℕ) → Small (step_on w rec p).state
unfolding step_on
small-on w rec p = small w.settings w.states rec (part_at w rec p) p (time_of rec) (form_at (counts_in w.settings) p)

-- ---- the events of an alarm's step, as the marked cases have them

module _ (number : ℕ) (a : Alarm) (s after : State) (x : Reading) (word time : ℕ) where
  pub digital-log : alarm_events number a after (digital_step a s x word time).events time
      ≡ events_from number a.kind (bit after.flags 1) time 0 (digital_events a x word time (look_digital s))
  unfolding digital_step
  digital-log = events-bits number a.kind (bit after.flags 1) time word_bits 0 (digital_events a x word time (look_digital s)) (omega arith)

  pub analog-log : alarm_events number a after (analog_step reals real_patterns (real_analog a) s x word time).events time
      ≡ events_from number a.kind (bit after.flags 1) time 0 (analog_events reals (real_analog a) x word time (look_analog real_patterns s))
  unfolding analog_step
  analog-log =
      events-bits number a.kind (bit after.flags 1) time word_bits 0 (analog_events reals (real_analog a) x word time (look_analog real_patterns s))
      (omega arith)
