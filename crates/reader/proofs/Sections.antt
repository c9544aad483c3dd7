-- Laws of the walk through a section's records, and through both sections. Assumes nothing.
use mathlib.Core.Path.{◌≡◌, refl, sym, ap}
use mathlib.Core.List.{List}
use mathlib.Core.Bool.{Bool, true, false, cond}
use Prim.Native.Nat.{ℕ, zero, suc, ◌+◌, ◌-◌, ◌≤◌, ◌<◌}
use native.Mathlib.Nat.{sub_self}
use native.Mathlib.Omega.{arith}
use borrow.Author.Tests.{ltb-true, leb-true}
use lib.Dec.{leb, ltb}
use lib.ListN.{length, get_or, set}
use Rattle.std.proofs.Common.{Result, Ok, Err}
use Rattle.settings.proofs.Followed.{ok-same, and-then-ok, spared}
use Rattle.settings.specs.Refusals.{refusal}
use Rattle.settings.specs.declared.refusals.Refusal.{Refusal}
use Rattle.settings.specs.declared.refusals.Reason.TheVariants.{Incomplete, TooMany, LeftOver}
use Rattle.settings.specs.declared.types.Alarm.{Alarm}
use Rattle.settings.specs.declared.types.Form.{Form}
use Rattle.settings.specs.declared.types.Form.TheVariants.{Digital, Analog}
use Rattle.settings.specs.declared.types.Settings.{Settings}
use Rattle.settings.specs.Alarm.{blanks}
use Rattle.settings_record.specs.Record.{record_at}
use Rattle.reader.specs.Count.{count_at}
use Rattle.reader.specs.Section.{Section, records_from, section_at}
use Rattle.reader.specs.Read.{sections_of, rest_of}

pub one_left : {place end : ℕ} → place < end → end - place ≡ suc (end - (place + 1))
one_left h = omega arith

module _ (form : Form) (image : List ℕ) (n : ℕ) where
  pub records-next : {place end : ℕ} (at : ℕ) (alarms : List Alarm) {a : Alarm} {next : ℕ} → place < end → record_at form image at ≡ Ok (a, next)
      → records_from form image n (end - place) place at alarms ≡ records_from form image n (end - (place + 1)) (place + 1) next (set alarms place a)
  unfolding records_from
  records-next {place} {end} at alarms h e = rw (one_left h, e)

  pub records-stop : {place end : ℕ} (at : ℕ) (alarms : List Alarm) {r : Refusal} → place < end → record_at form image at ≡ Err r
      → records_from form image n (end - place) place at alarms ≡ Err r
  unfolding records_from
  records-stop {place} {end} at alarms h e = rw (one_left h, e)

  pub records-end : (place at : ℕ) (alarms : List Alarm)
      → records_from form image n (place - place) place at alarms ≡ Ok (record { alarms = alarms; count = n; next = at })
  unfolding records_from
  records-end place at alarms = rw sub_self

-- a section that is read has as many alarms as its count says
pub records-count : (form : Form) (image : List ℕ) (n k place at : ℕ) (alarms : List Alarm) {s : Section}
    → records_from form image n k place at alarms ≡ Ok s → s.count ≡ n
unfolding records_from
records-count form image n zero place at alarms e = sym (ap (λ (s : Section). s.count) (ok-same e))
records-count form image n (suc k) place at alarms e =
    let f = and-then-ok (record_at form image at) (λ r. records_from form image n k (place + 1) r.1 (set alarms place r.0)) e in
    records-count form image n k (place + 1) f.value.1 (set alarms place f.value.0) f.follows

-- what is known of a count that was read
pub record Counted (image : List ℕ) (at n next : ℕ) : Type 0 where
  pub here : at < length image
  pub count : n ≡ get_or image at 0
  pub past : next ≡ at + 1
  pub most : n ≤ 12

pub count-read : (image : List ℕ) (at : ℕ) {n next : ℕ} → count_at image at ≡ Ok (n, next)
    → Counted image at n next
unfolding count_at
count-read image at {n} {next} e = go (ltb at (length image)) (leb (get_or image at 0) 12) refl refl e
  where
    go : (p q : Bool) → ltb at (length image) ≡ p → leb (get_or image at 0) 12 ≡ q
        → cond p (cond {A = Result (ℕ × ℕ) Refusal} q (Ok (get_or image at 0, at + 1)) (Err (refusal TooMany at)))
        (Err (refusal Incomplete at)) ≡ Ok (n, next)
        → Counted image at n next
    go true true g h e =
        let same = ok-same e in
        let x : n ≡ get_or image at 0 = sym (ap (λ (c : ℕ × ℕ). c.0) same) in
        let y : next ≡ at + 1 = sym (ap (λ (c : ℕ × ℕ). c.1) same) in
        record { here = ltb-true at (length image) g; count = x; past = y; most = omega (arith, leb-true (get_or image at 0) 12 h) }
    go true false g h e = let z : ◌≡◌ {A = ℕ} 0 1 = cc in absurd (omega arith)
    go false q g h e = let z : ◌≡◌ {A = ℕ} 0 1 = cc in absurd (omega arith)

pub section-most : (form : Form) (image : List ℕ) (first at : ℕ) (alarms : List Alarm) {s : Section}
    → section_at form image first at alarms ≡ Ok s → s.count ≤ 12
unfolding section_at
section-most form image first at alarms {s} e =
    let f = and-then-ok (count_at image at) (λ c. records_from form image c.0 c.0 first c.1 alarms) e in
    let x : s.count ≡ f.value.0 = records-count form image f.value.0 f.value.0 first f.value.1 alarms f.follows in
    omega (arith, (count-read image at f.was).most)

-- of an image that was read: both sections, that nothing is left over, and the settings that they make
pub record BothRead (image : List ℕ) (s : Settings) : Type 0 where
  pub digital : Section
  pub analog : Section
  pub first : section_at Digital image 0 0 blanks ≡ Ok digital
  pub second : section_at Analog image digital.count digital.next digital.alarms ≡ Ok analog
  pub ended : ltb analog.next (length image) ≡ false
  pub made : record { counts = record { digital = digital.count; analog = analog.count }; alarms = analog.alarms } ≡ s

pub both-read : (image : List ℕ) {s : Settings} → sections_of image ≡ Ok s → BothRead image s
unfolding sections_of rest_of
both-read image e =
    let f = and-then-ok (section_at Digital image 0 0 blanks) (rest_of image) e in
    let d = f.value in
    let read : Section → Settings = λ a. record { counts = record { digital = d.count; analog = a.count }; alarms = a.alarms } in
    let g = and-then-ok (section_at Analog image d.count d.next d.alarms)
    (λ a. cond (ltb a.next (length image)) (Err (refusal LeftOver a.next)) (Ok (read a))) f.follows in
    let end = spared (ltb g.value.next (length image)) (refusal LeftOver g.value.next) (read g.value) g.follows in
    record { digital = d; analog = g.value; first = f.was; second = g.was; ended = end.0; made = end.1 }
