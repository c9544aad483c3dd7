-- The words after a list of calls stand for the bank after it. Assumes nothing.
use borrow.Author.Tests.{eq-eqb}
use mathlib.Core.Path.{◌≡◌, refl, sym, ap, ap₂, ◌∙◌}
use mathlib.Core.Bool.{Bool, true, false, ◌&&◌, cond}
use mathlib.Core.List.{List, [], ◌∷◌}
use Prim.Native.Nat.{ℕ}
use lib.Dec.{T}
use lib.Pow.{are_bytes}
use lib.ListN.{length}
use Rattle.std.proofs.Common.{Result, Ok, Err}
use Rattle.settings.specs.Refusals.{refusal}
use Rattle.settings.specs.declared.refusals.Refusal.{Refusal}
use Rattle.settings.specs.declared.refusals.Reason.TheVariants.{EventsTooLong}
use Rattle.layout.specs.Internal.Block.{is_block}
use Rattle.image.specs.Internal.Write.{written_of, image_buffer, write_of, write_buffer}
use Rattle.report.specs.Internal.Report.{report_of, report_in}
use Rattle.bank.specs.Internal.Bank.{Bank, load_of}
use Rattle.scan.specs.Internal.Scan.{Scanned, if_accepted, check_of, events_in, bank_after, too_short, refused_scan, checked_scan, scan_of, event_buffer}
use Rattle.bank.specs.Lent.{Words}
use Rattle.bank.specs.Internal.Words.{fit_of, bank_in}
use Rattle.sweep.specs.Internal.Sweep.{words_after}
use Rattle.scan.specs.Internal.Words.{answer_of, scanned_words, buffer_of}
use Rattle.bank.specs.Internal.Load.{loaded_words}
use Rattle.scan.proofs.Bridge.{bank-after}
use Rattle.scan.proofs.Fits.{stays_fit}
use Rattle.bank.proofs.Loads.{loaded-bank, loaded-fits}
use Rattle.bank.proofs.Places.{fit-says}
use Rattle.scan.proofs.Scans.{refused-scan, accepted-scan}
use Rattle.bank_history.specs.Calls.{Call, scan, after_call, after}
use Rattle.bank_history.proofs.Lists.{bank_then, bank_after_all}

-- the settings block of a bank's words
block : (w : Words) → fit_of w ≡ Ok tt → is_block w.settings ≡ true
block w fits = let f = fit-says w fits in ap₂ (λ (x y : Bool). x && y) (eq-eqb _ _ f.settings-long) (eq-eqb _ _ f.layout)

-- ---- one call

module _ (w : Words) (rec : List ℕ) (e : check_of (bank_in w) rec ≡ Ok tt) (long : length w.states ≡ 580) where
  -- by whether the buffer is too short
  abbrev scanned : Bool → Scanned
  scanned t =
      cond t (refused_scan (bank_in w) (refusal EventsTooLong 0))
      (record { bank = bank_after (bank_in w) rec; answer = Ok (length (events_in (bank_in w) rec)) })

  by : (t : Bool) → bank_in (if_accepted (scanned t).answer (words_after w rec) w) ≡ (scanned t).bank
  by true = refl
  by false = bank-after w rec e long

  checked-on : (room : ℕ) → bank_in (if_accepted (checked_scan (bank_in w) rec room).answer (words_after w rec) w) ≡ (checked_scan (bank_in w) rec room).bank
  unfolding checked_scan
  checked-on room = by (too_short (bank_in w) rec room)

module _ (w : Words) (fits : fit_of w ≡ Ok tt) where
  -- on words that are a bank's
  pub answer-on : (rec : List ℕ) (room : ℕ) → answer_of w rec room ≡ (scan_of (bank_in w) rec room).answer
  unfolding answer_of
  answer-on rec room = rw fits

  pub buffer-on : (rec out : List ℕ) → buffer_of w rec out ≡ event_buffer (bank_in w) rec out
  unfolding buffer_of
  buffer-on rec out = rw fits

  pub report-on : (n : ℕ) → report_in w n ≡ report_of (bank_in w) n
  unfolding report_in
  report-on n = rw fits

  pub write-on : (room : ℕ) → write_of w.settings room ≡ written_of (bank_in w).settings room
  unfolding write_of bank_in
  write-on room = rw (block w fits)

  pub written_on : (out : List ℕ) → write_buffer w.settings out ≡ image_buffer (bank_in w).settings out
  unfolding write_buffer bank_in
  written_on out = rw (block w fits)

  -- the bank that a scan hands back is the one that the words then stand for
  bank-on : (rec : List ℕ) (room : ℕ) → bank_in (scanned_words w rec room) ≡ (scan_of (bank_in w) rec room).bank
  unfolding scanned_words
  bank-on rec room = ap (λ (a : Result ℕ Refusal). bank_in (if_accepted a (words_after w rec) w)) (answer-on rec room) ∙ go (check_of (bank_in w) rec) refl
    where
      same : {s t : Scanned} → s ≡ t → bank_in (if_accepted t.answer (words_after w rec) w) ≡ t.bank
          → bank_in (if_accepted s.answer (words_after w rec) w) ≡ s.bank
      same e h = ap (λ (x : Scanned). bank_in (if_accepted x.answer (words_after w rec) w)) e ∙ h ∙ sym (ap (λ (x : Scanned). x.bank) e)

      go : (r : Result (Unit {0}) Refusal) → check_of (bank_in w) rec ≡ r
          → bank_in (if_accepted (scan_of (bank_in w) rec room).answer (words_after w rec) w) ≡ (scan_of (bank_in w) rec room).bank
      go (Ok u) e = same (accepted-scan (bank_in w) rec room e) (checked-on w rec e (fit-says w fits).states-long room)
      go (Err r) e = same (refused-scan (bank_in w) rec room e) refl

-- ---- a list of calls

call-on : (w : Words) (fits : fit_of w ≡ Ok tt) (c : Call) → (fit_of (after_call w c) ≡ Ok tt) × (bank_in (after_call w c) ≡ bank_then (bank_in w) c)
call-on w fits (scan rec out) = (stays_fit w rec (length out) ∙ fits, bank-on w fits rec (length out))

pub lent-all : (calls : List Call) (w : Words) (b : Bank) → fit_of w ≡ Ok tt → bank_in w ≡ b
    → (fit_of (after w calls) ≡ Ok tt) × (bank_in (after w calls) ≡ bank_after_all b calls)
unfolding after bank_after_all
lent-all [] w b fits e = (fits, e)
lent-all (c ∷ calls) w b fits e =
    let next = call-on w fits c in
    lent-all calls (after_call w c) (bank_then b c) next.0 (next.1 ∙ ap (λ (x : Bank). bank_then x c) e)

-- from a loaded image on
pub lent-bank : (image : List ℕ) (calls : List Call) → T (are_bytes image)
    → (fit_of (after (loaded_words image) calls) ≡ Ok tt) × (bank_in (after (loaded_words image) calls) ≡ bank_after_all (load_of image) calls)
lent-bank image calls h = lent-all calls (loaded_words image) (load_of image) (loaded-fits image) (loaded-bank image h)
