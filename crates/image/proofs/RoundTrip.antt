-- Settings that are read are written back to the same bytes; how long an accepted image is. Assumes nothing.
use mathlib.Core.Path.{◌≡◌, refl, sym, ap, ap₂, subst, ◌∙◌}
use mathlib.Core.List.{List, [], ◌∷◌, ◌++◌}
use mathlib.Core.Bool.{true}
use Prim.Native.Nat.{ℕ, zero, suc, ◌+◌, ◌*◌, ◌≤◌, ◌<◌}
use native.Mathlib.Nat.{add-zero, mul-zero, mul-suc, zero-add, le_refl}
use native.Mathlib.Numerals.{add-one, one-add, lt-add-one}
use native.Mathlib.Omega.{arith}
use borrow.Author.Tests.{ltb-false, le-leb, lt-leb}
use lib.Dec.{T, leb}
use lib.ListN.{length, get_or, take, drop, set, length-set}
use lib.Pow.{are_bytes}
use lib.Seq.{slice, slice_empty, slice-cons, take-take, take-set-le, get_or-take, get_or-set_same, take_all, take_at}
use Rattle.wire.specs.Number.{bytes, part}
use Rattle.wire.proofs.Laws.{part-suc, part-add}
use Rattle.settings.proofs.Few.{good}
use Rattle.settings.specs.Alarm.{blank, blanks, empty, factory}
use Rattle.reader.specs.Count.{count_at}
use Rattle.settings_record.specs.Record.{record_at, size_of}
use Rattle.reader.specs.Section.{Section, records_from, section_at}
use Rattle.reader.specs.Read.{sections_of, read_of, in_full, settings_of}
use Rattle.image.specs.Internal.Write.{records_bytes, section_bytes, image_of, has_room, written_of, image_buffer}
use Rattle.std.proofs.Common.{Ok, Err}
use Rattle.std.specs.Result.{is_ok}
use Rattle.settings.proofs.Followed.{ok-same, and-then-ok, was-ok}
use Rattle.settings.specs.Refusals.{refusal}
use Rattle.settings.specs.declared.refusals.Reason.TheVariants.{ImageTooLong}
use Rattle.image.specs.Internal.RoundTrip.{RoundTrip}
use Rattle.settings.specs.declared.types.Alarm.{Alarm}
use Rattle.settings.specs.declared.types.Form.{Form}
use Rattle.settings.specs.declared.types.Form.TheVariants.{Digital as DigitalForm, Analog as AnalogForm}
use Rattle.settings.specs.declared.types.Settings.{Settings}
use Rattle.image.proofs.Inverse.{Inverse, inverse}
use Rattle.reader.proofs.Sections.{count-read, records-count, both-read}
use Rattle.reader.proofs.Full.{read-in-full, bytes-in-full, read-again, full-some}
use Rattle.reader.proofs.Sound.{sound-settings}

-- ---- a section's records

-- what is known of k records that were read from offset `at` on for the places from `place` on, where `alarms` became `filled`
pub record Walked (form : Form) (image : List ℕ) (k place at : ℕ) (alarms filled : List Alarm) (next : ℕ) : Type 0 where
  pub past : next ≡ at + size_of form * k
  pub whole : at ≤ length image → next ≤ length image
  pub long : length filled ≡ length alarms
  pub kept : take place filled ≡ take place alarms
  pub bytes : records_bytes form (slice place (place + k) filled) ≡ part image at (size_of form * k)

module _ (form : Form) (image : List ℕ) (k place at : ℕ) (alarms : List Alarm) (a : Alarm) (past next : ℕ) (filled : List Alarm)
    (h : place + suc k ≤ length alarms) (r : Inverse form image at a past) (w : Walked form image k (place + 1) past (set alarms place a) filled next) where
  abbrev size : ℕ
  size = size_of form

  -- the first of the places holds the alarm that was read
  first-place : get_or filled place blank ≡ a
  first-place =
      sym (get_or-take (place + 1) filled place blank (lt-add-one place))
      ∙ ap (λ (l : List Alarm). get_or l place blank) w.kept
      ∙ get_or-take (place + 1) (set alarms place a) place blank (lt-add-one place)
      ∙ get_or-set_same alarms place a blank (omega arith)

  places : slice place (place + suc k) filled ≡ a ∷ slice (place + 1) (place + 1 + k) filled
  places =
      let e : place + suc k ≡ place + 1 + k = omega arith in
      let long : place + suc k ≤ length filled = omega (arith, w.long, length-set alarms place a) in
      slice-cons place (place + suc k) filled blank (omega arith) long
      ∙ ap₂ (λ (x : Alarm) (l : List Alarm). x ∷ l) first-place (rw (← e, add-one))

  walked_more : Walked form image (suc k) place at alarms filled next
  unfolding records_bytes
  walked_more =
      let e : size + size * k ≡ size * suc k = omega (arith, mul-suc size k) in
      record {
        past = omega (arith, w.past, r.past, e);
        whole = λ _. w.whole r.whole;
        long = w.long ∙ length-set alarms place a;
        kept =
            sym (take-take place (place + 1) filled (omega arith))
            ∙ ap (take place) w.kept
            ∙ take-take place (place + 1) (set alarms place a) (omega arith)
            ∙ take-set-le place alarms place a (le_refl place);
        bytes =
            ap (records_bytes form) places
            ∙ ap₂ (λ (x y : List ℕ). x ++ y) r.bytes (w.bytes ∙ ap (λ (j : ℕ). part image j (size * k)) r.past)
            ∙ sym (part-add image at size (size * k))
            ∙ ap (part image at) e;
      }

walked : (form : Form) (image : List ℕ) → T (are_bytes image) → (n k place at : ℕ) (alarms : List Alarm) {s : Section} → place + k ≤ length alarms
    → records_from form image n k place at alarms ≡ Ok s → Walked form image k place at alarms s.alarms s.next
unfolding records_from records_bytes
walked form image b n zero place at alarms h e =
    subst (λ (s : Section). Walked form image 0 place at alarms s.alarms s.next) (ok-same e)
    (record {
      past = omega (arith, mul-zero (size_of form));
      whole = λ w. w;
      long = refl;
      kept = refl;
      bytes = simp (add-zero, slice_empty, mul-zero);
    })
walked form image b n (suc k) place at alarms {s} h e =
    let f = and-then-ok (record_at form image at) (λ r. records_from form image n k (place + 1) r.1 (set alarms place r.0)) e in
    let a = f.value.0 in
    let past = f.value.1 in
    let rest = walked form image b n k (place + 1) past (set alarms place a) (simp length-set (omega arith)) f.follows in
    walked_more form image k place at alarms a past s.next s.alarms h (inverse form image b at f.was) rest

-- ---- a section

pub record SectionRead (form : Form) (image : List ℕ) (first at : ℕ) (alarms filled : List Alarm) (n next : ℕ) : Type 0 where
  pub most : n ≤ 12
  pub past : next ≡ at + (1 + size_of form * n)
  pub whole : next ≤ length image
  pub long : length filled ≡ length alarms
  pub kept : take first filled ≡ take first alarms
  pub bytes : section_bytes form first n filled ≡ part image at (1 + size_of form * n)

section-read : (form : Form) (image : List ℕ) → T (are_bytes image) → (first at : ℕ) (alarms : List Alarm) {s : Section} → first + 12 ≤ length alarms
    → section_at form image first at alarms ≡ Ok s → SectionRead form image first at alarms s.alarms s.count s.next
unfolding section_at section_bytes
section-read form image b first at alarms {s} h e =
    let f = and-then-ok (count_at image at) (λ c. records_from form image c.0 c.0 first c.1 alarms) e in
    let n = f.value.0 in
    let past = f.value.1 in
    let c = count-read image at f.was in
    let w = walked form image b n n first past alarms (omega (arith, c.most)) f.follows in
    subst (λ (j : ℕ). SectionRead form image first at alarms s.alarms j s.next) (sym (records-count form image n n first past alarms f.follows))
    (record {
      most = c.most;
      past = omega (arith, w.past, c.past);
      whole = w.whole (omega (arith, c.past, c.here));
      long = w.long;
      kept = w.kept;
      bytes =
          ap₂ (λ (x : ℕ) (l : List ℕ). x ∷ l) c.count (w.bytes ∙ rw (c.past, add-one))
          ∙ sym (part-suc image at (size_of form * n) c.here) ∙ ap (part image at) (sym (one-add (size_of form * n)));
    })

-- ---- an image

-- the records of places that a later section leaves alone
kept-slice : (n : ℕ) (xs ys : List Alarm) → take n xs ≡ take n ys → slice 0 (0 + n) xs ≡ slice 0 (0 + n) ys
kept-slice n xs ys e = rw zero-add e

module _ (image : List ℕ) (b : T (are_bytes image)) where
  whole-image : (n m : ℕ) {next end : ℕ} → next ≡ 0 + n → end ≡ next + m → end ≤ length image → length image ≤ end
      → part image 0 n ++ part image next m ≡ image
  whole-image n m {next} {end} p q l h =
      ap (λ (j : ℕ). part image 0 n ++ part image j m) p ∙ sym (part-add image 0 n m) ∙ take_all (n + m) image (omega arith)

  back-sections : (d a next end : ℕ) (alarms : List Alarm) (filled : List Alarm)
      → SectionRead DigitalForm image 0 0 blanks alarms d next → SectionRead AnalogForm image d next alarms filled a end → length image ≤ end
      → RoundTrip image (record { counts = record { digital = d; analog = a }; alarms = filled })
  unfolding image_of section_bytes blanks
  back-sections d a next end alarms filled x y h =
      record {
        size = omega (arith, x.past, y.past, y.whole);
        back =
            ap₂ (λ (u v : List ℕ). u ++ v)
            (ap (λ (l : List Alarm). d ∷ records_bytes DigitalForm l) (kept-slice d filled alarms y.kept) ∙ x.bytes) y.bytes
            ∙ whole-image (1 + size_of DigitalForm * d) (1 + size_of AnalogForm * a) x.past y.past y.whole h;
      }

  -- an accepted image's length, and what is written back
  pub accepted : {s : Settings} → sections_of image ≡ Ok s → RoundTrip image s
  unfolding blanks
  accepted e =
      let r = both-read image e in
      let d = r.digital in
      let a = r.analog in
      let x = section-read DigitalForm image b 0 0 blanks (omega arith) r.first in
      let y = section-read AnalogForm image b d.count d.next d.alarms (omega (arith, x.long, x.most)) r.second in
      subst (RoundTrip image) r.made (back-sections d.count a.count d.next a.next d.alarms a.alarms x y (ltb-false a.next (length image) r.ended))

-- ---- what follows for the calls

module _ (image : List ℕ) (b : T (are_bytes image)) (e : is_ok (read_of image) ≡ true) where
  abbrev settings : Settings
  settings = settings_of image

  -- the image in full
  abbrev whole : List ℕ
  whole = in_full image

  trip : RoundTrip whole settings
  trip = accepted whole (bytes-in-full image b) (read-in-full image ∙ was-ok (read_of image) empty e)

  -- settings that are read are written back in full
  pub written-back : image_of settings ≡ whole
  written-back = trip.back

  -- which are the same bytes, but for the image of no bytes
  pub round_trip : 1 ≤ length image → image_of settings ≡ image
  round_trip h = written-back ∙ full-some image h

  pub longest : length whole ≤ 842
  longest = let s = sound-settings image in omega (arith, trip.size, s.most)

  pub room-is : (n : ℕ) → has_room settings.counts n ≡ leb (length whole) n
  unfolding has_room
  room-is n = rw (good settings.counts (sound-settings image).most, ← trip.size) refl

  -- a buffer that is long enough gets the image in full, and reading its front gives the same settings again
  pub written : (out : List ℕ) → length whole ≤ length out
      → (written_of settings (length out) ≡ Ok (length whole)) × (image_buffer settings out ≡ whole ++ drop (length whole) out)
  unfolding written_of image_buffer
  written out h =
      let t = room-is (length out) ∙ le-leb (length whole) (length out) h in
      (rw (t, written-back), rw (t, written-back))

  pub read_again : (out : List ℕ) → length whole ≤ length out → read_of (take (length whole) (image_buffer settings out)) ≡ read_of image
  read_again out h =
      ap read_of (ap (take (length whole)) (written out h).1 ∙ take_at whole (drop (length whole) out) (length whole) refl) ∙ read-again image

  -- a shorter one is refused and left as it was
  pub too_short : (out : List ℕ) → length out < length whole
      → (written_of settings (length out) ≡ Err (refusal ImageTooLong 0)) × (image_buffer settings out ≡ out)
  unfolding written_of image_buffer
  too_short out h =
      let t = room-is (length out) ∙ lt-leb (length whole) (length out) h in
      (rw t, rw t)

-- the factory bank's image has 110 bytes, is read as that bank, and is what is written of it
pub factory_trip : (length (in_full []) ≡ 110) × (read_of (in_full []) ≡ Ok factory) × (image_of factory ≡ in_full [])
unfolding bytes in_full read_of
factory_trip = (refl, read-again [], written-back [] tt refl)
