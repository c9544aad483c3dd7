-- Alarms stepped one after the other. Assumes nothing.
use mathlib.Core.Path.{◌≡◌, refl, sym, ap, ◌∙◌}
use mathlib.Core.List.{List, [], ◌++◌}
use Prim.Native.Nat.{ℕ, zero, suc, ◌+◌, ◌*◌, ◌≤◌}
use native.Mathlib.Nat.{add-zero, mul-suc}
use native.Mathlib.Numerals.{add-one}
use native.Mathlib.Omega.{arith}
use lib.ListN.{length, length-append}
use lib.Seq.{sets, length-sets}
use Rattle.wire.proofs.Laws.{sets-append}
use Rattle.settings.specs.Counts.{form_at}
use Rattle.settings.specs.Alarm.{ack_required}
use Rattle.settings.specs.declared.types.Form.{Form}
use Rattle.layout.specs.Internal.Words.{alarm_in}
use Rattle.layout.specs.Internal.Block.{alarm_at, counts_in, alarm_on, state_at}
use Rattle.scan_record.specs.Part.{time_of, reading_at, word_at}
use Rattle.event.specs.Event.{log_bytes}
use Rattle.event.proofs.Logs.{log-append}
use Rattle.state.specs.Internal.State.{starts_of, state_in, state_words}
use Rattle.sweep.specs.Internal.Step.{step_of}
use Rattle.state.proofs.Back.{eleven, state-above}
use Rattle.marks.proofs.Lengths.{length-alarm}
use Rattle.bank.specs.Lent.{Words}
use Rattle.sweep.specs.Internal.Sweep.{alarm_events, alarm_marks, place_step, place_states, place_log, place_marks, part_at, step_on, events_on, stepped_from}
use Rattle.sweep.specs.Internal.Sweep.{marked_from, logged_from, log_from}

module _ (w : Words) (rec : List ℕ) where
  -- ---- the alarms behind those that were stepped are as they were

  pub not_yet : (first n p : ℕ) → first + n ≤ p → state_in (stepped_from w rec first n) (state_at p) ≡ state_in w.states (state_at p)
  unfolding stepped_from
  not_yet first zero p h = refl
  not_yet first (suc n) p h =
      state-above (stepped_from w rec first n) (state_at (first + n)) (state_words (step_on w rec (first + n)).state) (state_at p)
      (omega (arith, eleven (step_on w rec (first + n)).state))
      ∙ not_yet first n p (omega arith)

  pub stepped-length : (first n : ℕ) → length (stepped_from w rec first n) ≡ length w.states
  unfolding stepped_from
  stepped-length first zero = refl
  stepped-length first (suc n) =
      length-sets (stepped_from w rec first n) (state_at (first + n)) (state_words (step_on w rec (first + n)).state) ∙ stepped-length first n

  pub marked-length : (first n : ℕ) → length (marked_from w rec first n) ≡ length w.marks
  unfolding marked_from
  marked-length first zero = refl
  marked-length first (suc n) =
      let a = alarm_on w.settings (first + n) in
      let s = step_on w rec (first + n) in
      length-alarm (ack_required a.kind a.flags) (starts_of s.state) s.events (time_of rec) (25 * (first + n)) (marked_from w rec first n)
      ∙ marked-length first n

  -- ---- the log

  pub log-none : (first : ℕ) → log_from w rec first 0 ≡ []
  unfolding log_from logged_from log_bytes
  log-none first = refl

  pub log-next : (first n : ℕ) → log_from w rec first (n + 1) ≡ log_from w rec first n ++ log_bytes (events_on w rec (first + n))
  unfolding log_from logged_from
  log-next first n = rw (add-one n) (log-append (logged_from w rec first n) (events_on w rec (first + n)))

  pub length-next : (first n : ℕ)
      → length (log_from w rec first (n + 1)) ≡ length (log_from w rec first n) + length (log_bytes (events_on w rec (first + n)))
  length-next first n = ap length (log-next first n) ∙ length-append (log_from w rec first n) (log_bytes (events_on w rec (first + n)))

  pub log-grows : (first n k : ℕ) → length (log_from w rec first n) ≤ length (log_from w rec first (n + k))
  log-grows first n zero = rw (add-zero n) (omega arith)
  log-grows first n (suc k) =
      let e : n + suc k ≡ n + k + 1 = omega arith in
      rw e (omega (arith, log-grows first n k, length-next first (n + k)))

  -- ---- the alarm at the next place

  module _ (first n : ℕ) {form : Form} {at time : ℕ} {states : List ℕ} (f : form_at (counts_in w.settings) (first + n) ≡ form)
      (o : at ≡ part_at w rec (first + n)) (t : time ≡ time_of rec) (s : states ≡ stepped_from w rec first n) where
    here-is : place_step form w.settings states rec at (first + n) time ≡ step_on w rec (first + n)
    unfolding place_step step_on
    here-is =
        let k = ap (λ (ws : List ℕ). state_in ws (state_at (first + n))) s ∙ not_yet first n (first + n) (omega arith) in
        λ i.
        step_of (alarm_in (sym f i) w.settings (alarm_at (first + n))) (k i) (reading_at (sym f i) rec (o i)) (word_at (sym f i) rec (o i)) (t i)

    alarm-is : alarm_in form w.settings (alarm_at (first + n)) ≡ alarm_on w.settings (first + n)
    alarm-is = ap (λ (g : Form). alarm_in g w.settings (alarm_at (first + n))) (sym f)

    -- its events
    pub log-here : place_log form w.settings states rec at (first + n) time ≡ log_bytes (events_on w rec (first + n))
    unfolding place_log events_on
    log-here = λ i. log_bytes (alarm_events (first + n + 1) (alarm-is i) (here-is i).state (here-is i).events (t i))

    pub states-next : place_states form w.settings states rec at (first + n) time ≡ stepped_from w rec first (n + 1)
    unfolding place_states stepped_from
    states-next = (λ i. sets (s i) (state_at (first + n)) (state_words (here-is i).state)) ∙ ap (stepped_from w rec first) (sym (add-one n))

    pub marks-next : {marks : List ℕ} → marks ≡ marked_from w rec first n
        → place_marks form w.settings states rec at (first + n) time marks ≡ marked_from w rec first (n + 1)
    unfolding place_marks marked_from
    marks-next m =
        (λ i. alarm_marks (first + n) (alarm-is i) (here-is i).state (here-is i).events (t i) (m i)) ∙ ap (marked_from w rec first) (sym (add-one n))

    pub out-next : (out₀ : List ℕ) (start : ℕ) {out : List ℕ} {used : ℕ} → out ≡ sets out₀ start (log_from w rec first n)
        → used ≡ start + length (log_from w rec first n)
        → sets out used (place_log form w.settings states rec at (first + n) time) ≡ sets out₀ start (log_from w rec first (n + 1))
    out-next out₀ start e u =
        (λ i. sets (e i) (u i) (log-here i))
        ∙ sets-append out₀ start (log_from w rec first n) (log_bytes (events_on w rec (first + n)))
        ∙ ap (sets out₀ start) (sym (log-next first n))

-- parts of equal size: the next one begins where this one ends
pub part-next : (begin size n : ℕ) {at : ℕ} → at ≡ begin + size * n → at + size ≡ begin + size * (n + 1)
part-next begin size n e =
    let m : size * (n + 1) ≡ size * n + size = rw (add-one n) (mul-suc size n) in
    omega (arith, m, e)
