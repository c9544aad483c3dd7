-- A replay by whether the words hold a bank, and what it keeps: the settings, every length, and room for its events. Assumes nothing.
use mathlib.Core.Path.{◌≡◌, refl, ap}
use mathlib.Core.List.{List}
use Prim.Native.Nat.{ℕ, ◌*◌, ◌≤◌}
use lib.ListN.{length}
use Rattle.std.proofs.Common.{Result, Ok, Err}
use Rattle.std.specs.Result.{IfOk}
use Rattle.settings.specs.Refusals.{and_then}
use Rattle.settings.specs.declared.refusals.Refusal.{Refusal}
use Rattle.bank.specs.Internal.Words.{on_reply, fit_of}
use Rattle.bank.specs.Lent.{Words}
use Rattle.scan.proofs.Fits.{Alike, alike_self, alike-fit}
use Rattle.replay.specs.Replay.{size_for, records_in, replay_of, replayed_of, replayed_words, replayed_buffer}
use Rattle.replay.proofs.Runs.{kept}

module _ (w : Words) (bytes out : List ℕ) {x : Result (Unit {0}) Refusal} (f : x ≡ fit_of w) where
  pub reply-is : and_then x (λ _. Ok (replay_of w bytes out).tally) ≡ replayed_of w bytes out
  unfolding replayed_of
  reply-is = ap (λ (y : Result (Unit {0}) Refusal). and_then y (λ _. Ok (replay_of w bytes out).tally)) f

  pub words_are : on_reply x (replay_of w bytes out).words (λ r. w) ≡ replayed_words w bytes out
  unfolding replayed_words
  words_are = ap (λ (y : Result (Unit {0}) Refusal). on_reply y (replay_of w bytes out).words (λ r. w)) f

  pub buffer-is : on_reply x (replay_of w bytes out).buffer (λ r. out) ≡ replayed_buffer w bytes out
  unfolding replayed_buffer
  buffer-is = ap (λ (y : Result (Unit {0}) Refusal). on_reply y (replay_of w bytes out).buffer (λ r. out)) f

-- ---- what it keeps

module _ (w : Words) (bytes out : List ℕ) where
  abbrev records : ℕ
  records = records_in (size_for w) bytes

  pub replay-alike : Alike (replayed_words w bytes out) w
  unfolding replayed_words
  replay-alike = go (fit_of w)
    where
      go : (x : Result (Unit {0}) Refusal) → Alike (on_reply x (replay_of w bytes out).words (λ r. w)) w
      go (Ok u) = (kept w bytes out records).alike
      go (Err r) = alike_self w

  -- a bank stays one
  pub replay-fit : fit_of (replayed_words w bytes out) ≡ fit_of w
  replay-fit = alike-fit replay-alike

  pub replay-length : length (replayed_buffer w bytes out) ≡ length out
  unfolding replayed_buffer
  replay-length = go (fit_of w)
    where
      go : (x : Result (Unit {0}) Refusal) → length (on_reply x (replay_of w bytes out).buffer (λ r. out)) ≡ length out
      go (Ok u) = (kept w bytes out records).same
      go (Err r) = refl

  -- 16 bytes for each event
  pub replay-room : IfOk (replayed_of w bytes out) (λ t. 16 * t.events ≤ length out)
  unfolding replayed_of
  replay-room = go (fit_of w)
    where
      go : (x : Result (Unit {0}) Refusal) → IfOk (and_then x (λ _. Ok (replay_of w bytes out).tally)) (λ t. 16 * t.events ≤ length out)
      go (Ok u) = (kept w bytes out records).room
      go (Err r) = tt
