-- Alarms stepped in two goes are stepped in one. Assumes nothing.
use borrow.Author.Tests.{lt-ltb, le-ltb}
use mathlib.Core.Path.{◌≡◌, sym, ap, ◌∙◌}
use mathlib.Core.Bool.{Bool, cond}
use mathlib.Core.List.{List, ◌++◌, append-nil, append_assoc}
use Prim.Native.Nat.{ℕ, zero, suc, ◌+◌, ◌≤◌}
use native.Mathlib.Nat.{add-zero, zero-add, add-suc}
use native.Mathlib.Omega.{arith}
use lib.ListN.{length, length-append}
use lib.Seq.{sets}
use Rattle.wire.proofs.Laws.{sets-append}
use Rattle.settings.specs.Counts.{form_at}
use Rattle.settings.specs.declared.counts.Counts.{Counts}
use Rattle.settings.specs.declared.types.Form.TheVariants.{Digital, Analog}
use Rattle.layout.specs.Internal.Block.{counts_in, alarm_on, state_at}
use Rattle.scan_record.specs.Part.{time_of, reading_at, word_at}
use Rattle.event.specs.Event.{log_bytes}
use Rattle.event.proofs.Logs.{log-append}
use Rattle.state.specs.Internal.State.{State, Stepped, state_words}
use Rattle.sweep.specs.Internal.Step.{step_of}
use Rattle.bank.specs.Lent.{Words}
use Rattle.bank.specs.Internal.Words.{words_in}
use Rattle.sweep.specs.Internal.Sweep.{alarm_events, alarm_marks, HaveForm, place_step, part_at, step_on, events_on, stepped_from, marked_from, logged_from}
use Rattle.sweep.specs.Internal.Sweep.{log_from}
use Rattle.sweep.proofs.Loops.{not_yet, stepped-length}

-- ---- the forms of the places

pub digital-places : (counts : Counts) → HaveForm counts 0 counts.digital Digital
digital-places counts p l h = ap (λ (b : Bool). cond b Digital Analog) (lt-ltb p counts.digital (omega arith))

pub analog-places : (counts : Counts) → HaveForm counts counts.digital counts.analog Analog
analog-places counts p l h = ap (λ (b : Bool). cond b Digital Analog) (le-ltb p counts.digital l)

module _ (w : Words) (rec : List ℕ) (d : ℕ) where
  -- the words after d alarms
  abbrev pub half : Words
  half = words_in w.settings (stepped_from w rec 0 d) (marked_from w rec 0 d)

  -- the alarms behind them are stepped from there as from the start
  pub later-step : (p : ℕ) → d ≤ p → step_on half rec p ≡ step_on w rec p
  unfolding step_on place_step
  later-step p h =
      let form = form_at (counts_in w.settings) p in
      ap (λ (s : State). step_of (alarm_on w.settings p) s (reading_at form rec (part_at w rec p)) (word_at form rec (part_at w rec p)) (time_of rec))
      (not_yet w rec 0 d p (omega arith))

  later-events : (p : ℕ) → d ≤ p → events_on half rec p ≡ events_on w rec p
  unfolding events_on
  later-events p h = ap (λ (s : Stepped). alarm_events (p + 1) (alarm_on w.settings p) s.state s.events (time_of rec)) (later-step p h)

  pub states-whole : (n : ℕ) → stepped_from half rec d n ≡ stepped_from w rec 0 (d + n)
  unfolding stepped_from
  states-whole zero = ap (stepped_from w rec 0) (sym (add-zero d))
  states-whole (suc n) =
      let step = later-step (d + n) (omega arith) ∙ ap (step_on w rec) (sym (zero-add (d + n))) in
      (λ i. sets (states-whole n i) (state_at (sym (zero-add (d + n)) i)) (state_words (step i).state))
      ∙ ap (stepped_from w rec 0) (sym (add-suc d n))

  pub marks-whole : (n : ℕ) → marked_from half rec d n ≡ marked_from w rec 0 (d + n)
  unfolding marked_from
  marks-whole zero = ap (marked_from w rec 0) (sym (add-zero d))
  marks-whole (suc n) =
      let step = later-step (d + n) (omega arith) ∙ ap (step_on w rec) (sym (zero-add (d + n))) in
      let at = sym (zero-add (d + n)) in
      (λ i.
      alarm_marks (at i) (alarm_on w.settings (at i)) (step i).state (step i).events (time_of rec) (marks-whole n i))
      ∙ ap (marked_from w rec 0) (sym (add-suc d n))

  pub states-long : (n : ℕ) → length (stepped_from half rec d n) ≡ length w.states
  states-long n = stepped-length half rec d n ∙ stepped-length w rec 0 d

  events-whole : (n : ℕ) → logged_from w rec 0 d ++ logged_from half rec d n ≡ logged_from w rec 0 (d + n)
  unfolding logged_from
  events-whole zero = append-nil (logged_from w rec 0 d) ∙ ap (logged_from w rec 0) (sym (add-zero d))
  events-whole (suc n) =
      sym (append_assoc (logged_from w rec 0 d) (logged_from half rec d n) (events_on half rec (d + n)))
      ∙ (λ i. events-whole n i ++ (later-events (d + n) (omega arith) ∙ ap (events_on w rec) (sym (zero-add (d + n)))) i)
      ∙ ap (logged_from w rec 0) (sym (add-suc d n))

  pub log-whole : (n : ℕ) → log_from w rec 0 d ++ log_from half rec d n ≡ log_from w rec 0 (d + n)
  unfolding log_from
  log-whole n = sym (log-append (logged_from w rec 0 d) (logged_from half rec d n)) ∙ ap log_bytes (events-whole n)

  pub length_whole : (n : ℕ) → length (log_from w rec 0 d) + length (log_from half rec d n) ≡ length (log_from w rec 0 (d + n))
  length_whole n = sym (length-append (log_from w rec 0 d) (log_from half rec d n)) ∙ ap length (log-whole n)

  pub out-whole : (n : ℕ) (out : List ℕ)
      → sets (sets out 0 (log_from w rec 0 d)) (0 + length (log_from w rec 0 d)) (log_from half rec d n) ≡ sets out 0 (log_from w rec 0 (d + n))
  out-whole n out = sets-append out 0 (log_from w rec 0 d) (log_from half rec d n) ∙ ap (sets out 0) (log-whole n)
