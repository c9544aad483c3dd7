-- A checked record on words, by whether the buffer is too short, and what it is on the bank that they stand for. Assumes nothing.
use borrow.Author.Tests.{ltb-false, lt-ltb, le-ltb}
use mathlib.Core.Path.{◌≡◌, refl, sym, ap, ◌∙◌}
use mathlib.Core.Bool.{Bool, true, false, cond}
use mathlib.Core.List.{List, ◌++◌}
use Prim.Native.Nat.{ℕ, ◌*◌, ◌/◌, ◌≤◌, ◌<◌}
use native.Mathlib.Nat.{zero-add}
use native.Mathlib.Omega.{arith}
use lib.Dec.{ltb}
use lib.ListN.{length, drop}
use lib.Seq.{sets, sets-eq}
use Rattle.std.proofs.Common.{Result, Ok, Err}
use Rattle.settings.specs.Refusals.{refusal}
use Rattle.settings.specs.declared.refusals.Refusal.{Refusal}
use Rattle.settings.specs.declared.refusals.Reason.TheVariants.{EventsTooLong}
use Rattle.layout.specs.Internal.Block.{count_in}
use Rattle.event.specs.Event.{Event, log_bytes}
use Rattle.event.proofs.Logs.{log-length}
use Rattle.bank.specs.Internal.Bank.{Bank}
use Rattle.scan.specs.Internal.Scan.{Scanned, if_accepted, check_of, events_in, bank_after, refused_scan, checked_scan, checked_buffer, event_buffer}
use Rattle.bank.specs.Lent.{Words}
use Rattle.bank.specs.Internal.Words.{bank_in}
use Rattle.sweep.specs.Internal.Sweep.{logged_from, log_from, log_after, words_after}
use Rattle.scan.specs.Internal.Words.{short_for, checked_answer, checked_words, checked_out, bank_answer, bank_words}
use Rattle.scan.proofs.Bridge.{events-are}
use Rattle.scan.proofs.Scans.{refused-scan, accepted-scan, accepted-buffer}

-- ---- whether the buffer suffices

module _ (w : Words) (rec : List ℕ) where
  sixteen : length (logged_from w rec 0 (count_in w.settings)) ≡ length (log_after w rec) / 16
  unfolding log_from
  sixteen = omega (arith, log-length (logged_from w rec 0 (count_in w.settings)))

  module _ (room : ℕ) (h : length (log_after w rec) ≤ room) where
    pub roomy-answer : Ok (length (log_after w rec) / 16) ≡ checked_answer w rec room
    unfolding checked_answer
    roomy-answer = rw (le-ltb room (length (log_after w rec)) h) (ap Ok (sym sixteen))

    pub roomy-words : words_after w rec ≡ checked_words w rec room
    unfolding checked_words
    roomy-words = rw (le-ltb room (length (log_after w rec)) h)

  pub roomy-out : (out : List ℕ) → length (log_after w rec) ≤ length out → sets out 0 (log_after w rec) ≡ checked_out w rec out
  unfolding checked_out
  roomy-out out h = rw (le-ltb (length out) (length (log_after w rec)) h)

  module _ (room : ℕ) (h : room < length (log_after w rec)) where
    pub short-answer : Err (refusal EventsTooLong 0) ≡ checked_answer w rec room
    unfolding checked_answer
    short-answer = rw (lt-ltb room (length (log_after w rec)) h)

    pub short-words : w ≡ checked_words w rec room
    unfolding checked_words
    short-words = rw (lt-ltb room (length (log_after w rec)) h)

  pub short-out : (out : List ℕ) → length out < length (log_after w rec) → out ≡ checked_out w rec out
  unfolding checked_out
  short-out out h = rw (lt-ltb (length out) (length (log_after w rec)) h)

-- ---- the bank that the words stand for

answers : (t : Bool) (b b' : Bank) (k : ℕ)
    → (cond t (refused_scan b (refusal EventsTooLong 0)) (record { bank = b'; answer = Ok k })).answer ≡ cond t (Err (refusal EventsTooLong 0)) (Ok k)
answers true b b' k = refl
answers false b b' k = refl

chosen : (t : Bool) (k : ℕ) (new old : Words) → cond t old new ≡ if_accepted (cond t (Err (refusal EventsTooLong 0)) (Ok k)) new old
chosen true k new old = refl
chosen false k new old = refl

same_out : (t : Bool) (out log : List ℕ) → (t ≡ false → length log ≤ length out) → cond t out (log ++ drop (length log) out) ≡ cond t out (sets out 0 log)
same_out true out log h = refl
same_out false out log h = sym (sets-eq log out 0 (omega (arith, h refl)) ∙ ap (λ (k : ℕ). log ++ drop k out) (zero-add (length log)))

module _ (w : Words) (rec : List ℕ) (accepted : check_of (bank_in w) rec ≡ Ok tt) where
  short-is : (room : ℕ) → ltb room (16 * length (events_in (bank_in w) rec)) ≡ short_for w rec room
  unfolding log_from
  short-is room =
      ap (λ (l : List Event). ltb room (16 * length l)) (events-are w rec accepted)
      ∙ ap (ltb room) (sym (log-length (logged_from w rec 0 (count_in w.settings))))

  pub answer-is : (room : ℕ) → checked_answer w rec room ≡ bank_answer w rec room
  unfolding checked_scan checked_answer bank_answer
  answer-is room =
      sym
      (ap (λ (s : Scanned). s.answer) (accepted-scan (bank_in w) rec room accepted)
      ∙ answers (ltb room (16 * length (events_in (bank_in w) rec))) (bank_in w) (bank_after (bank_in w) rec) (length (events_in (bank_in w) rec))
      ∙ (λ i. cond (short-is room i) (Err (refusal EventsTooLong 0)) (Ok (length (events-are w rec accepted i)))))

  pub words_are : (room : ℕ) → checked_words w rec room ≡ bank_words w rec room
  unfolding checked_words checked_answer bank_words
  words_are room =
      chosen (short_for w rec room) (length (logged_from w rec 0 (count_in w.settings))) (words_after w rec) w
      ∙ ap (λ (a : Result ℕ Refusal). if_accepted a (words_after w rec) w) (answer-is room)

  pub buffer-is : (out : List ℕ) → checked_out w rec out ≡ event_buffer (bank_in w) rec out
  unfolding checked_buffer checked_out log_from
  buffer-is out =
      let log = log_bytes (logged_from w rec 0 (count_in w.settings)) in
      sym
      (accepted-buffer (bank_in w) rec out accepted
      ∙ (λ i. cond (short-is (length out) i) out (log_bytes (events-are w rec accepted i) ++ drop (length (log_bytes (events-are w rec accepted i))) out))
      ∙ same_out (short_for w rec (length out)) out log (λ e. ltb-false (length out) (length log) e))

-- ---- a refused record

module _ (w : Words) (rec : List ℕ) {r : Refusal} (refused : check_of (bank_in w) rec ≡ Err r) (room : ℕ) where
  pub refused-answer : Err r ≡ bank_answer w rec room
  unfolding bank_answer
  refused-answer = sym (ap (λ (s : Scanned). s.answer) (refused-scan (bank_in w) rec room refused))

  pub refused-words : w ≡ bank_words w rec room
  unfolding bank_words
  refused-words = ap (λ (a : Result ℕ Refusal). if_accepted a (words_after w rec) w) refused-answer
