-- Alarms read from a settings block by a section's form are the settings' alarms. Assumes nothing.
use mathlib.Core.Path.{◌≡◌, refl, sym, ap, ◌∙◌}
use mathlib.Core.List.{List, ◌∷◌}
use Prim.Native.Nat.{ℕ, ◌+◌, ◌≤◌, ◌<◌}
use native.Mathlib.Omega.{arith}
use borrow.Author.Tests.{lt-ltb, le-ltb}
use lib.ListN.{length, get_or, take}
use lib.Seq.{slice, length-slice, get_or-take, get_or-drop, ext_get_or}
use Rattle.wire.specs.Number.{part}
use Rattle.settings.specs.Counts.{form_at}
use Rattle.settings.specs.Alarm.{blank, blanks}
use Rattle.settings.specs.declared.types.Alarm.{Alarm}
use Rattle.settings.specs.declared.types.Form.{Form}
use Rattle.settings.specs.declared.types.Form.TheVariants.{Digital as DigitalForm, Analog as AnalogForm}
use Rattle.layout.specs.Internal.Words.{alarm_in, form_of}
use Rattle.layout.specs.Internal.Block.{alarm_at, alarm_on, counts_in, count_in, settings_in}
use Rattle.layout.proofs.Back.{long-blanks}
use Rattle.layout.proofs.Laws.{alarm-cut, length-placed, placed_below}
use Rattle.image.specs.Internal.Write.{record_bytes, records_bytes, section_bytes, read_as}
use Rattle.image.proofs.Images.{digital_section, analog_section}

pub length-read : (form : Form) (ws : List ℕ) → length (read_as form ws) ≡ 24
unfolding read_as
length-read form ws = length-placed (λ p. alarm_in form ws (alarm_at p)) 24 blanks ∙ long-blanks

pub read_at : (form : Form) (ws : List ℕ) (p : ℕ) → p < 24 → get_or (read_as form ws) p blank ≡ alarm_in form ws (alarm_at p)
unfolding read_as
read_at form ws p h = placed_below (λ p. alarm_in form ws (alarm_at p)) 24 p blanks blank h (omega (arith, long-blanks))

-- an alarm that was read by a form has that form
form-read : (form : Form) (ws : List ℕ) (at : ℕ) → form_of (alarm_in form ws at).kind ≡ form
unfolding alarm_in
form-read DigitalForm ws at = refl
form-read AnalogForm ws at = refl

-- so the record of an alarm that was read off its own words is that of the section
pub record-read : (form : Form) (ws : List ℕ) (p : ℕ) {alarm : Alarm} {words : List ℕ} → p < 24 → alarm ≡ alarm_in form words 0
    → words ≡ part ws (alarm_at p) 8 → record_bytes (form_of alarm.kind) alarm ≡ record_bytes form (get_or (read_as form ws) p blank)
record-read form ws p h a w =
    let e = a ∙ ap (λ (l : List ℕ). alarm_in form l 0) w ∙ alarm-cut form ws (alarm_at p) in
    (λ i. record_bytes (form_of (e i).kind) (e i))
    ∙ ap (λ (f : Form). record_bytes f (alarm_in form ws (alarm_at p))) (form-read form ws (alarm_at p))
    ∙ ap (record_bytes form) (sym (read_at form ws p h))

-- two lists with the same elements from a place to before another have the same part there
slice-same : (xs ys : List Alarm) (first end : ℕ) → end ≤ length xs → end ≤ length ys
    → ((p : ℕ) → first ≤ p → p < end → get_or xs p blank ≡ get_or ys p blank) → slice first end xs ≡ slice first end ys
slice-same xs ys first end h k same =
    let n = length-slice first end xs h in
    ext_get_or blank (slice first end xs) (slice first end ys) (n ∙ sym (length-slice first end ys k)) (λ i m.
    let l : first + i < end = omega arith in
    get_or-drop first (take end xs) i blank ∙ get_or-take end xs (first + i) blank l ∙ same (first + i) (omega arith) l
    ∙ sym (get_or-drop first (take end ys) i blank ∙ get_or-take end ys (first + i) blank l))

module _ (ws : List ℕ) (most : count_in ws ≤ 24) where
  -- the settings' alarm at a place, of the form that the place has
  settings-at : (form : Form) (p : ℕ) → p < count_in ws → form_at (counts_in ws) p ≡ form
      → get_or (read_as form ws) p blank ≡ get_or (settings_in ws).alarms p blank
  unfolding settings_in
  settings-at form p h e =
      read_at form ws p (omega arith) ∙ ap (λ (f : Form). alarm_in f ws (alarm_at p)) (sym e)
      ∙ sym (placed_below (alarm_on ws) (count_in ws) p blanks blank h (omega (arith, long-blanks)))

  long-settings : length (settings_in ws).alarms ≡ 24
  unfolding settings_in
  long-settings = length-placed (alarm_on ws) (count_in ws) blanks ∙ long-blanks

  section-same : (form : Form) (first n : ℕ) → first + n ≤ count_in ws → ((p : ℕ) → first ≤ p → p < first + n → form_at (counts_in ws) p ≡ form)
      → section_bytes form first n (read_as form ws) ≡ section_bytes form first n (settings_in ws).alarms
  unfolding section_bytes
  section-same form first n h forms =
      ap (λ (l : List Alarm). n ∷ records_bytes form l)
      (slice-same (read_as form ws) (settings_in ws).alarms first (first + n) (omega (arith, length-read form ws)) (omega (arith, long-settings))
      (λ p j k. settings-at form p (omega arith) (forms p j k)))

  pub digital-same : section_bytes DigitalForm 0 (counts_in ws).digital (read_as DigitalForm ws) ≡ digital_section (settings_in ws)
  unfolding settings_in
  digital-same = section-same DigitalForm 0 (counts_in ws).digital (omega arith) (λ p j k. rw (lt-ltb p (counts_in ws).digital (omega arith)))

  pub analog-same : section_bytes AnalogForm (counts_in ws).digital (counts_in ws).analog (read_as AnalogForm ws) ≡ analog_section (settings_in ws)
  unfolding settings_in
  analog-same = section-same AnalogForm (counts_in ws).digital (counts_in ws).analog (omega arith) (λ p j k. rw (le-ltb p (counts_in ws).digital j))
