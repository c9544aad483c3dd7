-- The events of an accepted scan are the same in every buffer of a length, whatever it held.
use mathlib.Core.Path.{◌≡◌, sym, ◌∙◌}
use mathlib.Core.Bool.{Bool, true, false, cond}
use mathlib.Core.List.{List, ◌++◌}
use Prim.Native.Nat.{ℕ, ◌*◌}
use native.Mathlib.Omega.{arith}
use lib.ListN.{length, take, drop}
use Rattle.std.specs.Prelude.{Result, Ok, Err}
use Rattle.std.proofs.lemmas.List.{take_at}
use Rattle.settings.specs.Refusals.{refusal, and_then}
use Rattle.settings.specs.declared.refusals.Refusal.{Refusal}
use Rattle.settings.specs.declared.refusals.Reason.TheVariants.{EventsTooLong}
use Rattle.event.specs.Event.{log_bytes}
use Rattle.event.proofs.Logs.{log-length}
use Rattle.bank.specs.Internal.Bank.{Bank}
use Rattle.bank.specs.Internal.Words.{on_reply, fit_of, bank_in}
use Rattle.bank.specs.Lent.{Words}
use Rattle.scan.specs.Internal.Scan.{Scanned, check_of, events_in, bank_after, too_short, refused_scan, checked_scan, checked_buffer, scan_of, event_buffer}
use Rattle.scan.specs.Internal.Words.{answer_of, buffer_of}

module _ (b : Bank) (rec : List ℕ) where
  abbrev log : List ℕ
  log = log_bytes (events_in b rec)

  -- a checked scan, by whether the buffer is too short
  abbrev scanned : Bool → Scanned
  scanned t =
      cond t (refused_scan b (refusal EventsTooLong 0)) (record { bank = bank_after b rec; answer = Ok (length (events_in b rec)) })

  bank-front : (out : List ℕ) {n : ℕ} → (scan_of b rec (length out)).answer ≡ Ok n → take (n * 16) (event_buffer b rec out) ≡ log
  unfolding scan_of checked_scan event_buffer checked_buffer
  bank-front out {n} e = go (check_of b rec) (too_short b rec (length out)) e
    where
      go : (x : Result (Unit {0}) Refusal) (t : Bool)
          → (on_reply x (scanned t) (λ r. refused_scan b r)).answer ≡ Ok n
          → take (n * 16) (on_reply x (cond t out (log ++ drop (length log) out)) (λ r. out)) ≡ log
      go (Ok u) true e = let z : ◌≡◌ {A = ℕ} 0 1 = cc in absurd (omega arith)
      go (Ok u) false e =
          let many : length (events_in b rec) ≡ n = cc in
          take_at log (drop (length log) out) (n * 16) (omega (arith, log-length (events_in b rec), many))
      go (Err r) t e = let z : ◌≡◌ {A = ℕ} 0 1 = cc in absurd (omega arith)

module _ (w : Words) (rec : List ℕ) where
  front : (out : List ℕ) {n : ℕ} → answer_of w rec (length out) ≡ Ok n → take (n * 16) (buffer_of w rec out) ≡ log (bank_in w) rec
  unfolding answer_of buffer_of
  front out {n} e = go (fit_of w) e
    where
      go : (x : Result (Unit {0}) Refusal) → and_then x (λ _. (scan_of (bank_in w) rec (length out)).answer) ≡ Ok n
          → take (n * 16) (on_reply x (event_buffer (bank_in w) rec out) (λ r. out)) ≡ log (bank_in w) rec
      go (Ok u) e = bank-front (bank_in w) rec out e
      go (Err r) e = let z : ◌≡◌ {A = ℕ} 0 1 = cc in absurd (omega arith)

  pub same-front : (out other : List ℕ) (n : ℕ) → length other ≡ length out → answer_of w rec (length out) ≡ Ok n →
      take (n * 16) (buffer_of w rec out) ≡ take (n * 16) (buffer_of w rec other)
  same-front out other n same e = front out e ∙ sym (front other (rw same e))
