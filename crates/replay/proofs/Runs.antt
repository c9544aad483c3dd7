-- Laws of runs of records: what a run keeps, and where each record begins and ends. Assumes nothing.
use mathlib.Core.Path.{◌≡◌, refl, sym, ap, ◌∙◌}
use mathlib.Core.Bool.{Bool, true, false, cond}
use mathlib.Core.List.{List, [], ◌∷◌, ◌++◌, append-nil}
use Prim.Native.Nat.{ℕ, zero, suc, ◌+◌, ◌-◌, ◌*◌, ◌≤◌, ◌<◌, min}
use native.Mathlib.Nat.{mul-zero, mul_comm, mul-suc, div-eq_of_lt-le}
use native.Mathlib.Numerals.{add-one}
use native.Mathlib.Omega.{arith}
use borrow.Author.Tests.{leb-true, leb-false}
use lib.Dec.{leb}
use lib.ListN.{length, take, drop, length-append, length-take, length-drop, drop_of_length-le}
use lib.Seq.{take_all, take-append_seam, drop-append_seam, drop-drop}
use Rattle.settings.specs.Counts.{are_good}
use Rattle.settings.specs.declared.counts.Counts.{Counts}
use Rattle.layout.specs.Internal.Block.{counts_in}
use Rattle.scan_record.specs.Part.{record_size}
use Rattle.scan_record.specs.Internal.Size.{length_of}
use Rattle.bank.specs.Lent.{Words}
use Rattle.bank.specs.Internal.Words.{words_in}
use Rattle.scan.specs.Internal.Words.{answer_of, scanned_words, buffer_of}
use Rattle.std.proofs.Common.{Result, Ok, Err}
use Rattle.settings.specs.declared.refusals.Refusal.{Refusal}
use Rattle.scan.proofs.Fits.{fits, buffer-length, Alike, alike_self, alike-on, scan-alike}
use Rattle.replay.specs.Replay.{size_for, drive_record, records_in, none_yet, counted, Progress, used_of, left_of, onward, progress_after, replay_of}
use Rattle.replay.specs.declared.replay.Tally.{Tally}

-- a record has at least its time
size-least : (counts : Counts) → 8 ≤ length_of counts
unfolding length_of
size-least counts = go (are_good counts)
  where
    go : (t : Bool) → 8 ≤ cond t (record_size counts) 8
    go true = omega arith
    go false = omega arith

-- ---- one more record

module _ (p : Progress) (i : ℕ) (rec : List ℕ) where
  abbrev used : ℕ
  used = 16 * p.tally.events

  abbrev answer : Result ℕ Refusal
  answer = answer_of p.words rec (length (left_of p))

  onward-length : length (onward p i rec).buffer ≡ length p.buffer
  unfolding onward
  onward-length =
      omega (
        arith,
        length-append (used_of p) (buffer_of p.words rec (left_of p)),
        buffer-length p.words rec (left_of p),
        length-take used p.buffer,
        length-drop used p.buffer,
      )

  -- the events so far still fit
  onward-fits : used ≤ length p.buffer → 16 * (onward p i rec).tally.events ≤ length p.buffer
  unfolding onward
  onward-fits h = go answer refl
    where
      go : (x : Result ℕ Refusal) → answer ≡ x → 16 * (counted p.tally x i).events ≤ length p.buffer
      go (Ok n) e = omega (arith, fits p.words rec (length (left_of p)) e, length-drop used p.buffer)
      go (Err r) e = h

  onward-refused : (onward p i rec).tally.refused ≤ p.tally.refused + 1
  unfolding onward
  onward-refused = go answer
    where
      go : (x : Result ℕ Refusal) → (counted p.tally x i).refused ≤ p.tally.refused + 1
      go (Ok n) = omega arith
      go (Err r) = omega arith

  -- what is lent from the end of the events so far to the end of the buffer
  abbrev pub lent : List ℕ
  lent = take (length p.buffer - used) (left_of p)

  lent-all : lent ≡ left_of p
  lent-all = take_all (length p.buffer - used) (left_of p) (omega (arith, length-drop used p.buffer))

  -- with the answer to it, the events still fit
  pub answer-fits : {x : Result ℕ Refusal} → x ≡ answer_of p.words rec (length lent) → used ≤ length p.buffer
      → 16 * (counted p.tally x i).events ≤ length p.buffer
  unfolding onward
  answer-fits e h = rw (e, lent-all) (onward-fits h)

  onward-tally : {t : Tally} {x : Result ℕ Refusal} → t ≡ counted p.tally x i → x ≡ answer_of p.words rec (length lent) → t ≡ (onward p i rec).tally
  unfolding onward
  onward-tally e a = rw (e, a, lent-all)

  -- the settings stay
  onward-words : {states marks : List ℕ} → states ≡ (scanned_words p.words rec (length lent)).states → marks ≡ (scanned_words p.words rec (length lent)).marks
      → words_in p.words.settings states marks ≡ (onward p i rec).words
  unfolding onward
  onward-words s m =
      let kept = sym (scan-alike p.words rec (length lent)).settings-same in
      (λ j. words_in (kept j) (s j) (m j)) ∙ ap (λ (l : List ℕ). scanned_words p.words rec (length l)) lent-all

  onward-buffer : {ys : List ℕ} → ys ≡ buffer_of p.words rec lent → used_of p ++ (ys ++ drop (length p.buffer - used) (left_of p)) ≡ (onward p i rec).buffer
  unfolding onward
  onward-buffer e =
      let none = drop_of_length-le (left_of p) {i = length p.buffer - used} (omega (arith, length-drop used p.buffer)) in
      rw (e, lent-all, none, append-nil)

  -- after a scan that was lent it
  pub onward-is : {t : Tally} {x : Result ℕ Refusal} {states marks ys : List ℕ} → t ≡ counted p.tally x i → x ≡ answer_of p.words rec (length lent)
      → states ≡ (scanned_words p.words rec (length lent)).states → marks ≡ (scanned_words p.words rec (length lent)).marks
      → ys ≡ buffer_of p.words rec lent
      → record { words = words_in p.words.settings states marks; tally = t; buffer = used_of p ++ (ys ++ drop (length p.buffer - used) (left_of p)) }
      ≡ onward p i rec
  onward-is e a s m o = λ j. record { words = onward-words s m j; tally = onward-tally e a j; buffer = onward-buffer o j }

  onward-alike : Alike (onward p i rec).words p.words
  unfolding onward
  onward-alike = scan-alike p.words rec (length (left_of p))

-- ---- the first records

module _ (w : Words) (bytes out : List ℕ) where
  run-next : (n : ℕ) → progress_after w bytes out (n + 1) ≡ onward (progress_after w bytes out n) n (drive_record (size_for w) bytes n)
  unfolding progress_after
  run-next n = rw (add-one n)

  -- what holds after the first n records
  pub record Kept (n : ℕ) : Type 0 where
    pub same : length (progress_after w bytes out n).buffer ≡ length out
    pub room : 16 * (progress_after w bytes out n).tally.events ≤ length out
    pub few : (progress_after w bytes out n).tally.refused ≤ n
    pub alike : Alike (progress_after w bytes out n).words w

  pub kept : (n : ℕ) → Kept n
  unfolding progress_after
  kept zero = record { same = refl; room = omega arith; few = omega arith; alike = alike_self w }
  kept (suc n) =
      let k = kept n in
      let p = progress_after w bytes out n in
      let rec = drive_record (size_for w) bytes n in
      record {
        same = onward-length p n rec ∙ k.same;
        room = omega (arith, onward-fits p n rec (omega arith), k.same);
        few = omega (arith, onward-refused p n rec, k.few);
        alike = alike-on (onward-alike p n rec) k.alike;
      }

-- ---- where each record begins and ends

empty : (l : List ℕ) → length l ≡ 0 → l ≡ []
empty [] h = refl
empty (x ∷ l) h = absurd (omega arith)

module _ (size : ℕ) where
  -- a chunk from the front and what is left
  chunk-is : (chunk rest all : List ℕ) → all ≡ chunk ++ rest → length chunk ≡ min size (length all) → (chunk ≡ take size all) × (rest ≡ drop size all)
  chunk-is chunk rest all e n = rw e (go (leb size (length all)) refl)
    where
      both : length all ≡ length chunk + length rest
      both = ap length e ∙ length-append chunk rest

      go : (t : Bool) → leb size (length all) ≡ t → (chunk ≡ take size (chunk ++ rest)) × (rest ≡ drop size (chunk ++ rest))
      go true k =
          let m : size ≡ length chunk = omega (arith, leb-true size (length all) k) in
          rw m (sym (take-append_seam chunk rest), sym (drop-append_seam chunk rest))
      go false k =
          let m : length chunk ≤ size = omega (arith, leb-false size (length all) k) in
          let none : rest ≡ [] = empty rest (omega (arith, both, leb-false size (length all) k)) in
          rw (none, append-nil) (sym (take_all size chunk m), sym (drop_of_length-le chunk m))

-- before the record with index i, where `rest` is left of the bytes: what the loop keeps
pub record Going (w : Words) (bytes out : List ℕ) (size : ℕ) (p : Progress) (i : ℕ) (rest : List ℕ) : Type 0 where
  pub sized : size ≡ size_for w
  pub left : rest ≡ drop (size * i) bytes
  pub begun : size * i < length bytes + size
  pub so_far : p ≡ progress_after w bytes out i

pub going-first : (w : Words) (bytes out : List ℕ) → Going w bytes out (size_for w) (record { words = w; tally = none_yet; buffer = out }) 0 bytes
unfolding progress_after
going-first w bytes out =
    record {
      sized = refl;
      left = rw mul-zero;
      begun = omega (arith, mul-zero (size_for w), size-least (counts_in w.settings));
      so_far = refl;
    }

module _ {w : Words} {bytes out : List ℕ} {size : ℕ} {p : Progress} {i : ℕ} {rest : List ℕ} (g : Going w bytes out size p i rest) where
  pub least : 8 ≤ size
  least = rw g.sized (size-least (counts_in w.settings))

  pub has_room : 16 * p.tally.events ≤ length p.buffer
  has_room = rw g.so_far (omega (arith, (kept w bytes out i).room, (kept w bytes out i).same))

  pub same_length : length p.buffer ≡ length out
  same_length = ap (λ (q : Progress). length q.buffer) g.so_far ∙ (kept w bytes out i).same

  pub still_alike : Alike p.words w
  still_alike = rw g.so_far (kept w bytes out i).alike

  pub few-refused : p.tally.refused ≤ i
  few-refused = rw g.so_far (kept w bytes out i).few

  pub going_next : (chunk behind : List ℕ) {q : Progress} → 0 < length rest → rest ≡ chunk ++ behind → length chunk ≡ min size (length rest)
      → q ≡ onward p i chunk → Going w bytes out size q (i + 1) behind
  going_next chunk behind l e n o =
      let both = chunk-is size chunk behind rest e n in
      let next : size * (i + 1) ≡ size * i + size = ap (λ (n : ℕ). size * n) (add-one i) ∙ mul-suc size i in
      let rec : chunk ≡ drive_record (size_for w) bytes i = both.0 ∙ ap (take size) g.left ∙ ap (λ (n : ℕ). drive_record n bytes i) g.sized in
      record {
        sized = g.sized;
        left = both.1 ∙ ap (drop size) g.left ∙ drop-drop size (size * i) bytes ∙ ap (λ (n : ℕ). drop n bytes) (sym next);
        begun = omega (arith, ap length g.left, length-drop (size * i) bytes);
        so_far = o ∙ (λ j. onward (g.so_far j) i (rec j)) ∙ sym (run-next w bytes out i);
      }

  pub going_end : length rest ≡ 0 → p ≡ replay_of w bytes out
  going_end h =
      let passed : length bytes ≤ size * i = omega (arith, ap length g.left, length-drop (size * i) bytes) in
      let n : i ≡ records_in size bytes =
      sym
      (div-eq_of_lt-le {k = i} size {m = length bytes + (size - 1)}
      (omega (arith, least, mul_comm i size))
      (omega (arith, least, g.begun, mul_comm (i + 1) size, mul-suc size i, ap (λ (n : ℕ). size * n) (add-one i)))) in
      g.so_far ∙ ap (progress_after w bytes out) (n ∙ ap (λ (n : ℕ). records_in n bytes) g.sized)
