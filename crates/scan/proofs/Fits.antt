-- The events of an accepted scan fit the buffer that it was lent, and a scan keeps the settings and every length. Assumes nothing.
use mathlib.Core.Path.{◌≡◌, refl, ap, ◌∙◌}
use mathlib.Core.Bool.{Bool, true, false, cond}
use mathlib.Core.List.{List, ◌++◌}
use Prim.Native.Nat.{ℕ, ◌*◌, ◌≤◌}
use native.Mathlib.Omega.{arith}
use borrow.Author.Tests.{ltb-false}
use lib.Dec.{eqb}
use lib.ListN.{length, drop, length-append, length-drop, length-set}
use Rattle.std.proofs.Common.{Result, Ok, Err}
use Rattle.settings.specs.Refusals.{refusal, and_then}
use Rattle.settings.specs.declared.refusals.Refusal.{Refusal}
use Rattle.settings.specs.declared.refusals.Reason.TheVariants.{EventsTooLong}
use Rattle.layout.specs.Internal.Block.{no_bank, count_in, is_block}
use Rattle.scan_record.specs.Part.{time_of}
use Rattle.event.specs.Event.{log_bytes}
use Rattle.event.proofs.Logs.{log-length}
use Rattle.bank.specs.Internal.Bank.{Bank}
use Rattle.bank.specs.Internal.Words.{on_reply, fit_of, bank_in}
use Rattle.scan.specs.Internal.Scan.{if_accepted, check_of, events_in, bank_after, too_short, refused_scan, checked_scan, checked_buffer, scan_of, event_buffer}
use Rattle.bank.specs.Lent.{Words}
use Rattle.sweep.specs.Internal.Sweep.{stepped_from, words_after}
use Rattle.scan.specs.Internal.Words.{bank_answer, bank_words, answer_of, scanned_words, buffer_of}
use Rattle.sweep.proofs.Loops.{stepped-length, marked-length}

-- ---- on a bank

-- a choice of refusal or events that ended in events
took : (t : Bool) (b b' : Bank) {m n : ℕ}
    → (cond t (refused_scan b (refusal EventsTooLong 0)) (record { bank = b'; answer = Ok m })).answer ≡ Ok n → (t ≡ false) × (m ≡ n)
took true b b' e = let z : ◌≡◌ {A = ℕ} 0 1 = cc in absurd (omega arith)
took false b b' e = (refl, cc)

module _ (b : Bank) (rec : List ℕ) where
  bank-fits : (room : ℕ) {n : ℕ} → (scan_of b rec room).answer ≡ Ok n → 16 * n ≤ room
  unfolding scan_of checked_scan
  bank-fits room {n} e = go (check_of b rec) e
    where
      go : (x : Result (Unit {0}) Refusal) → (on_reply x (checked_scan b rec room) (λ r. refused_scan b r)).answer ≡ Ok n → 16 * n ≤ room
      go (Ok u) e =
          let t = took (too_short b rec room) b (bank_after b rec) e in
          omega (arith, ltb-false room (16 * length (events_in b rec)) t.0, t.1)
      go (Err r) e = let z : ◌≡◌ {A = ℕ} 0 1 = cc in absurd (omega arith)

  abbrev log : List ℕ
  log = log_bytes (events_in b rec)

  -- an accepted scan writes over the front, a refused one leaves every byte
  bank-buffer : (out : List ℕ) → length (event_buffer b rec out) ≡ length out
  unfolding event_buffer checked_buffer
  bank-buffer out = go (check_of b rec) (too_short b rec (length out)) refl
    where
      go : (x : Result (Unit {0}) Refusal) (t : Bool) → too_short b rec (length out) ≡ t
          → length (on_reply x (cond t out (log ++ drop (length log) out)) (λ r. out)) ≡ length out
      go (Ok u) true e = refl
      go (Ok u) false e =
          omega (
            arith,
            length-append log (drop (length log) out),
            length-drop (length log) out,
            log-length (events_in b rec),
            ltb-false (length out) (16 * length (events_in b rec)) e,
          )
      go (Err r) t e = refl

-- ---- on words

module _ (w : Words) (rec : List ℕ) where
  -- 16 bytes for each event of an accepted scan
  pub fits : (room : ℕ) {n : ℕ} → answer_of w rec room ≡ Ok n → 16 * n ≤ room
  unfolding answer_of
  fits room {n} e = go (fit_of w) e
    where
      go : (x : Result (Unit {0}) Refusal) → and_then x (λ _. (scan_of (bank_in w) rec room).answer) ≡ Ok n → 16 * n ≤ room
      go (Ok u) e = bank-fits (bank_in w) rec room e
      go (Err r) e = let z : ◌≡◌ {A = ℕ} 0 1 = cc in absurd (omega arith)

  pub buffer-length : (out : List ℕ) → length (buffer_of w rec out) ≡ length out
  unfolding buffer_of
  buffer-length out = go (fit_of w)
    where
      go : (x : Result (Unit {0}) Refusal) → length (on_reply x (event_buffer (bank_in w) rec out) (λ r. out)) ≡ length out
      go (Ok u) = bank-buffer (bank_in w) rec out
      go (Err r) = refl

-- ---- a scan of words that are a bank's, and of others

module _ (w : Words) (rec : List ℕ) (room : ℕ) (out : List ℕ) where
  -- what is said and left, by whether the words are a bank's
  abbrev answered : Result (Unit {0}) Refusal → Result ℕ Refusal
  answered r = and_then r (λ _. (scan_of (bank_in w) rec room).answer)

  abbrev buffered : Result (Unit {0}) Refusal → List ℕ
  buffered r = on_reply r (event_buffer (bank_in w) rec out) (λ q. out)

  pub record Scanned (answer : Result ℕ Refusal) (words : Words) (buffer : List ℕ) : Type 0 where
    pub answer-is : answer ≡ answer_of w rec room
    pub words-are : words ≡ scanned_words w rec room
    pub buffer-is : buffer ≡ buffer_of w rec out

  pub of-bank : Ok tt ≡ fit_of w → Scanned (bank_answer w rec room) (bank_words w rec room) (event_buffer (bank_in w) rec out)
  unfolding bank_answer bank_words answer_of scanned_words buffer_of
  of-bank f =
      record {
        answer-is = ap answered f;
        words-are = ap (λ (r : Result ℕ Refusal). if_accepted r (words_after w rec) w) (ap answered f);
        buffer-is = ap buffered f;
      }

  pub of-none : {r : Refusal} → Err r ≡ fit_of w → Scanned (Err r) w out
  unfolding answer_of scanned_words buffer_of
  of-none f =
      record {
        answer-is = ap answered f;
        words-are = ap (λ (r : Result ℕ Refusal). if_accepted r (words_after w rec) w) (ap answered f);
        buffer-is = ap buffered f;
      }

-- ---- words that differ in no setting and no length

pub record Alike (v w : Words) : Type 0 where
  pub settings-same : v.settings ≡ w.settings
  pub states-same : length v.states ≡ length w.states
  pub marks-same : length v.marks ≡ length w.marks

pub alike_self : (w : Words) → Alike w w
alike_self w = record { settings-same = refl; states-same = refl; marks-same = refl }

pub alike-on : {u v w : Words} → Alike u v → Alike v w → Alike u w
alike-on s t =
    record {
      settings-same = s.settings-same ∙ t.settings-same;
      states-same = s.states-same ∙ t.states-same;
      marks-same = s.marks-same ∙ t.marks-same;
    }

-- both hold a bank or none does
pub alike-fit : {v w : Words} → Alike v w → fit_of v ≡ fit_of w
unfolding fit_of
alike-fit s =
    λ i.
    cond (is_block (s.settings-same i))
    (cond (eqb (s.states-same i) 580) (cond (eqb (s.marks-same i) 900) (Ok (tt {0})) (Err (no_bank 2))) (Err (no_bank 1)))
    (Err (no_bank 0))

module _ (w : Words) (rec : List ℕ) where
  -- a checked record
  after-alike : Alike (words_after w rec) w
  unfolding words_after
  after-alike =
      let n = count_in w.settings in
      record {
        settings-same = refl;
        states-same = length-set (stepped_from w rec 0 n) 0 (time_of rec) ∙ stepped-length w rec 0 n;
        marks-same = marked-length w rec 0 n;
      }

  -- a scan
  pub scan-alike : (room : ℕ) → Alike (scanned_words w rec room) w
  unfolding scanned_words
  scan-alike room = go (answer_of w rec room)
    where
      go : (a : Result ℕ Refusal) → Alike (if_accepted a (words_after w rec) w) w
      go (Ok n) = after-alike
      go (Err r) = alike_self w

  pub stays_fit : (room : ℕ) → fit_of (scanned_words w rec room) ≡ fit_of w
  stays_fit room = alike-fit (scan-alike room)
