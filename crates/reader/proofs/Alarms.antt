-- What a section's answer says with the alarms left out, and what stands in their places then. Assumes nothing.
use mathlib.Core.Path.{◌≡◌, ap, ◌∙◌}
use mathlib.Core.List.{List}
use Prim.Native.Nat.{ℕ, zero, suc, ◌+◌, ◌-◌, ◌<◌}
use native.Mathlib.Nat.{sub_self}
use lib.ListN.{set}
use Rattle.std.proofs.Common.{Result, Ok, Err}
use Rattle.settings.proofs.Followed.{ok-same, and-then-ok}
use Rattle.settings.specs.declared.refusals.Refusal.{Refusal}
use Rattle.settings.specs.declared.types.Alarm.{Alarm}
use Rattle.settings.specs.declared.types.Form.{Form}
use Rattle.settings_record.specs.Record.{record_at}
use Rattle.reader.specs.Count.{count_at}
use Rattle.reader.specs.Section.{Section, records_from, section_at}
use Rattle.reader.proofs.Sections.{one_left}
use Rattle.reader.specs.Internal.Alarms.{span_of, records_alarms, section_alarms}

spanned : (s : Section) {alarms : List Alarm} {n next : ℕ} → alarms ≡ s.alarms → ◌≡◌ {A = ℕ × ℕ} (s.count, s.next) (n, next)
    → s ≡ record { alarms = alarms; count = n; next = next }
spanned s {n = n} {next = next} a e =
    let x : s.count ≡ n = ap (λ (p : ℕ × ℕ). p.0) e in
    let y : s.next ≡ next = ap (λ (p : ℕ × ℕ). p.1) e in
    rw (a, ← x, ← y)

module _ (form : Form) (image : List ℕ) where
  pub alarms-next : {place end : ℕ} (at : ℕ) (alarms : List Alarm) {a : Alarm} {next : ℕ} → place < end → record_at form image at ≡ Ok (a, next)
      → records_alarms form image (end - place) place at alarms ≡ records_alarms form image (end - (place + 1)) (place + 1) next (set alarms place a)
  unfolding records_alarms
  alarms-next {place} {end} at alarms h e = rw (one_left h, e)

  pub alarms-stop : {place end : ℕ} (at : ℕ) (alarms : List Alarm) {r : Refusal} → place < end → record_at form image at ≡ Err r
      → records_alarms form image (end - place) place at alarms ≡ alarms
  unfolding records_alarms
  alarms-stop {place} {end} at alarms h e = rw (one_left h, e)

  pub alarms-end : (place at : ℕ) (alarms : List Alarm) → records_alarms form image (place - place) place at alarms ≡ alarms
  unfolding records_alarms
  alarms-end place at alarms = rw sub_self

  -- of a section that is read the alarms are those of its answer
  records-alarms : (n k place at : ℕ) (alarms : List Alarm) {s : Section}
      → records_from form image n k place at alarms ≡ Ok s → records_alarms form image k place at alarms ≡ s.alarms
  unfolding records_from records_alarms
  records-alarms n zero place at alarms e = ap (λ (s : Section). s.alarms) (ok-same e)
  records-alarms n (suc k) place at alarms e =
      let f = and-then-ok (record_at form image at) (λ r. records_from form image n k (place + 1) r.1 (set alarms place r.0)) e in
      rw f.was (records-alarms n k (place + 1) f.value.1 (set alarms place f.value.0) f.follows)

  pub section-alarms : (first at : ℕ) (alarms : List Alarm) {s : Section}
      → section_at form image first at alarms ≡ Ok s → section_alarms form image first at alarms ≡ s.alarms
  unfolding section_at section_alarms
  section-alarms first at alarms e =
      let f = and-then-ok (count_at image at) (λ c. records_from form image c.0 c.0 first c.1 alarms) e in
      rw f.was (records-alarms f.value.0 f.value.0 first f.value.1 alarms f.follows)

  -- and its answer is known of the one without them
  pub section-read : (first at : ℕ) (alarms : List Alarm) {n next : ℕ} → span_of (section_at form image first at alarms) ≡ Ok (n, next)
      → section_at form image first at alarms ≡ Ok (record { alarms = section_alarms form image first at alarms; count = n; next = next })
  section-read first at alarms {n} {next} e =
      let f = and-then-ok (section_at form image first at alarms) (λ s. Ok (s.count, s.next)) e in
      f.was ∙ ap Ok (spanned f.value (section-alarms first at alarms f.was) (ok-same f.follows))

-- a refusal is the same without the alarms
pub span-refused : (r : Result Section Refusal) {e : Refusal} → span_of r ≡ Err e → r ≡ Err e
span-refused (Ok s) e = cc
span-refused (Err r) e = cc
