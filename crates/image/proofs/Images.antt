-- Laws of images: lengths, and the records of a section one by one. Assumes nothing.
use mathlib.Core.Path.{◌≡◌, refl, sym, ap, ◌∙◌}
use mathlib.Core.List.{List, [], ◌∷◌, ◌++◌}
use Prim.Native.Nat.{ℕ, suc, ◌+◌, ◌*◌, ◌≤◌, ◌<◌}
use native.Mathlib.Nat.{le_trans, mul-suc, mul-le-mul_left, zero-add}
use mathlib.Core.Bool.{true}
use borrow.Author.Tests.{leb-true}
use lib.Dec.{leb}
use native.Mathlib.Numerals.{add-one}
use native.Mathlib.Omega.{arith}
use lib.ListN.{length, get_or, take, length-append, length-take, length-drop, drop, drop_of_length-le}
use lib.Seq.{slice, slice-cons, sets, sets-eq}
use Rattle.wire.proofs.Laws.{length-words, sets-append, and-true}
use Rattle.settings.proofs.Few.{few}
use Rattle.image.specs.Internal.Write.{digital_bytes, analog_bytes, severity_words, limit_words, kind_bytes, record_bytes, records_bytes, section_bytes}
use Rattle.image.specs.Internal.Write.{image_of, size_of_image, has_room}
use Rattle.settings_record.specs.Record.{size_of}
use Rattle.settings.specs.Counts.{are_good}
use Rattle.settings.specs.Alarm.{blank}
use Rattle.settings.specs.Internal.Few.{Few}
use Rattle.settings.specs.declared.counts.Counts.{Counts}
use Rattle.settings.specs.declared.types.Alarm.{Alarm}
use Rattle.settings.specs.declared.types.Settings.{Settings}
use Rattle.settings.specs.declared.types.Kind.{Kind}
use Rattle.settings.specs.declared.types.Kind.TheVariants.{Digital, Analog}
use Rattle.settings.specs.declared.types.Form.{Form}
use Rattle.settings.specs.declared.types.Form.TheVariants.{Digital as DigitalForm, Analog as AnalogForm}
use Rattle.settings.specs.declared.types.Limits.{Limits}
use Rattle.settings.specs.declared.types.Severities.{Severities}

pub length-digital : (flags severity duration : ℕ) → length (digital_bytes flags severity duration) ≡ size_of DigitalForm
unfolding digital_bytes
length-digital flags severity duration = ap suc (length-words (severity ∷ duration ∷ []))

pub length-analog : (flags : ℕ) (g : Limits) (s : Severities) (period duration : ℕ) → length (analog_bytes flags g s period duration) ≡ size_of AnalogForm
unfolding analog_bytes
length-analog flags g s period duration = ap suc (length-words (severity_words s ++ (limit_words g ++ (period ∷ duration ∷ []))))

module _ (form : Form) (alarms : List Alarm) (place end : ℕ) where
  -- the record of the first alarm of a run of places
  abbrev first_record : List ℕ
  first_record = record_bytes form (get_or alarms place blank)

  abbrev from : ℕ → List ℕ
  from p = records_bytes form (slice p end alarms)

  pub records-first : place < end → end ≤ length alarms → from place ≡ first_record ++ from (place + 1)
  unfolding records_bytes
  records-first h k = ap (records_bytes form) (slice-cons place end alarms blank h k) ∙ rw add-one

  pub length-first : place < end → end ≤ length alarms → length (from place) ≡ length first_record + length (from (place + 1))
  length-first h k = ap length (records-first h k) ∙ length-append first_record (from (place + 1))

  -- writing it and then the others is writing all
  pub sets_first : (out : List ℕ) (at : ℕ) → place < end → end ≤ length alarms
      → sets (sets out at first_record) (at + length first_record) (from (place + 1)) ≡ sets out at (from place)
  sets_first out at h k = sets-append out at first_record (from (place + 1)) ∙ ap (sets out at) (sym (records-first h k))

  pub records-none : end ≤ place → from place ≡ []
  unfolding records_bytes
  records-none h =
      let short : length (take end alarms) ≤ place = simp length-take (omega arith) in
      ap (records_bytes form) (drop_of_length-le (take end alarms) short)

-- ---- how long an image can be

kind-most : (form : Form) (k : Kind) (flags duration : ℕ) → length (kind_bytes form k flags duration) ≤ size_of form
unfolding kind_bytes
kind-most DigitalForm (Digital severity) flags duration = omega (arith, length-digital flags severity duration)
kind-most DigitalForm (Analog g s period) flags duration = omega arith
kind-most AnalogForm (Digital severity) flags duration = omega arith
kind-most AnalogForm (Analog g s period) flags duration = omega (arith, length-analog flags g s period duration)

records-most : (form : Form) (xs : List Alarm) → length (records_bytes form xs) ≤ size_of form * length xs
unfolding records_bytes
records-most form [] = omega arith
records-most form (a ∷ xs) =
    let first = kind-most form a.kind a.flags a.duration in
    let rest = records-most form xs in
    omega (arith, length-append (record_bytes form a) (records_bytes form xs), mul-suc (size_of form) (length xs))

slice-most : (first n : ℕ) (alarms : List Alarm) → length (slice first (first + n) alarms) ≤ n
slice-most first n alarms = simp (length-drop, length-take) (omega arith)

pub section-length : (form : Form) (first n : ℕ) (alarms : List Alarm)
    → length (section_bytes form first n alarms) ≡ suc (length (records_bytes form (slice first (first + n) alarms)))
unfolding section_bytes
section-length form first n alarms = refl

pub section-room : (form : Form) (first n : ℕ) (alarms : List Alarm) → length (section_bytes form first n alarms) ≤ 1 + size_of form * n
section-room form first n alarms =
    let xs = slice first (first + n) alarms in
    omega (arith, section-length form first n alarms, le_trans (records-most form xs) (mul-le-mul_left (size_of form) (slice-most first n alarms)))

-- ---- the writer's test for room

pub record Room (counts : Counts) (n : ℕ) : Type 0 where
  pub most : Few counts
  pub image : size_of_image counts ≤ n

pub room : (counts : Counts) (n : ℕ) → has_room counts n ≡ true → Room counts n
unfolding has_room
room counts n e =
    let both = and-true (are_good counts) (leb (size_of_image counts) n) e in
    record { most = few counts refl both.0; image = leb-true (size_of_image counts) n both.1 }

-- what is written from the start stands in front of the rest
pub sets-front : (xs out : List ℕ) → length xs ≤ length out → sets out 0 xs ≡ xs ++ drop (length xs) out
sets-front xs out h = sets-eq xs out 0 (rw zero-add h) ∙ rw zero-add

-- ---- both sections, written one after the other, are the image in front of the rest

abbrev pub digital_section : Settings → List ℕ
digital_section s = section_bytes DigitalForm 0 s.counts.digital s.alarms

abbrev pub analog_section : Settings → List ℕ
analog_section s = section_bytes AnalogForm s.counts.digital s.counts.analog s.alarms

pub image-length : (s : Settings) {n₁ n₂ : ℕ} → n₁ ≡ 0 + length (digital_section s) → n₂ ≡ n₁ + length (analog_section s) → n₂ ≡ length (image_of s)
unfolding image_of
image-length s e f = omega (arith, length-append (digital_section s) (analog_section s))

pub image-front : (s : Settings) (out : List ℕ) {l₁ l₂ : List ℕ} {n : ℕ} → Room s.counts (length out)
    → n ≡ 0 + length (digital_section s) → l₁ ≡ sets out 0 (digital_section s) → l₂ ≡ sets l₁ n (analog_section s)
    → l₂ ≡ image_of s ++ drop (length (image_of s)) out
unfolding image_of
image-front s out r e f g =
    let first = section-room DigitalForm 0 s.counts.digital s.alarms in
    let second = section-room AnalogForm s.counts.digital s.counts.analog s.alarms in
    let fits : length (digital_section s ++ analog_section s) ≤ length out =
    omega (arith, length-append (digital_section s) (analog_section s), r.image)
    in
    g ∙ rw (e, f) (sets-append out 0 (digital_section s) (analog_section s)) ∙ sets-front (digital_section s ++ analog_section s) out fits
