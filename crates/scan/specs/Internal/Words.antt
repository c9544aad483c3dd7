-- A scan on the words of a bank.
use Rattle.std.specs.Prelude.{ℕ, Bool, cond, List, ltb, length, Result, Ok, Err}
use Rattle.std.proofs.lemmas.List.Edits.{sets}
use Rattle.settings.specs.Refusals.{refusal, and_then}
use Rattle.settings.specs.declared.refusals.Refusal.{Refusal}
use Rattle.settings.specs.declared.refusals.Reason.TheVariants.{EventsTooLong}
use Rattle.layout.specs.Internal.Block.{count_in}
use Rattle.bank.specs.Lent.{Words}
use Rattle.bank.specs.Internal.Words.{on_reply, fit_of, bank_in}
use Rattle.sweep.specs.Internal.Sweep.{logged_from, log_after, words_after}
use Rattle.scan.specs.Internal.Scan.{if_accepted, scan_of, event_buffer}

module _ (w : Words) (rec : List ℕ) where
  -- ---- a checked record, by the buffer's length

  -- it is too short for the events
  abbrev pub short_for : ℕ → Bool
  short_for room = ltb room (length (log_after w rec))

  unfoldable pub checked_answer : ℕ → Result ℕ Refusal
  checked_answer room = cond (short_for room) (Err (refusal EventsTooLong 0)) (Ok (length (logged_from w rec 0 (count_in w.settings))))

  unfoldable pub checked_words : ℕ → Words
  checked_words room = cond (short_for room) w (words_after w rec)

  unfoldable pub checked_out : List ℕ → List ℕ
  checked_out out = cond (short_for (length out)) out (sets out 0 (log_after w rec))

  -- ---- a scan of words that are a bank's

  unfoldable pub bank_answer : ℕ → Result ℕ Refusal
  bank_answer room = (scan_of (bank_in w) rec room).answer

  unfoldable pub bank_words : ℕ → Words
  bank_words room = if_accepted (bank_answer room) (words_after w rec) w

-- ---- a scan of any words

-- the answer, given the buffer's length
unfoldable pub answer_of : Words → List ℕ → ℕ → Result ℕ Refusal
answer_of w rec room = and_then (fit_of w) (λ _. (scan_of (bank_in w) rec room).answer)

-- the words after it; a refused scan leaves every one
unfoldable pub scanned_words : Words → List ℕ → ℕ → Words
scanned_words w rec room = if_accepted (answer_of w rec room) (words_after w rec) w

-- the lent event buffer after it
unfoldable pub buffer_of : Words → List ℕ → List ℕ → List ℕ
buffer_of w rec out = on_reply (fit_of w) (event_buffer (bank_in w) rec out) (λ r. out)
