-- Where the alarms of an image stand after reading: each in its section's places, the places behind them blank. Assumes nothing.
use mathlib.Core.Path.{◌≡◌, refl, sym, ap, subst, ◌∙◌}
use mathlib.Core.List.{List}
use Prim.Native.Nat.{ℕ, zero, suc, ◌+◌, ◌≤◌, ◌<◌}
use native.Mathlib.Nat.{lt_of_not-le}
use native.Mathlib.Decide.{dec_le}
use native.Mathlib.Omega.{arith}
use borrow.Author.Tests.{lt-ltb, le-ltb}
use lib.ListN.{length, get_or, set, length-set, length-replicate, replicate}
use lib.Seq.{get_or-set_same, get_or-set_other}
use Rattle.std.proofs.Common.{Result, Ok, Err}
use Rattle.std.specs.Result.{result_unwrap_or}
use Rattle.settings.proofs.Followed.{ok-same, and-then-ok}
use Rattle.settings.specs.Counts.{in_all, form_at}
use Rattle.settings.specs.Alarm.{blank, blanks, empty}
use Rattle.settings.specs.Internal.Few.{Few}
use Rattle.settings.specs.declared.refusals.Refusal.{Refusal}
use Rattle.settings.specs.declared.types.Alarm.{Alarm}
use Rattle.settings.specs.declared.types.Form.{Form}
use Rattle.settings.specs.declared.types.Form.TheVariants.{Digital, Analog}
use Rattle.settings.specs.declared.types.Settings.{Settings}
use Rattle.settings_record.specs.Record.{record_at}
use Rattle.reader.specs.Count.{count_at}
use Rattle.reader.specs.Section.{Section, records_from, section_at}
use Rattle.reader.specs.Read.{sections_of, read_of, in_full, settings_of}
use Rattle.reader.proofs.Sections.{count-read, records-count, both-read}
use Rattle.reader.proofs.Full.{read-in-full}

-- n places from `place` on hold alarms with a property; the others are as before
pub record Filling (P : Alarm → Type 0) (n place : ℕ) (alarms filled : List Alarm) : Type 0 where
  pub long : length filled ≡ length alarms
  pub read : (i : ℕ) → place ≤ i → i < place + n → P (get_or filled i blank)
  pub front : (i : ℕ) → i < place → get_or filled i blank ≡ get_or alarms i blank
  pub behind : (i : ℕ) → place + n ≤ i → get_or filled i blank ≡ get_or alarms i blank

-- of settings: each alarm has the property that its place asks for, and the places behind the last are blank
pub record Settled (P : Form → Alarm → Type 0) (s : Settings) : Type 0 where
  pub most : Few s.counts
  pub long : length s.alarms ≡ 24
  pub read : (i : ℕ) → i < in_all s.counts → P (form_at s.counts i) (get_or s.alarms i blank)
  pub behind : (i : ℕ) → in_all s.counts ≤ i → get_or s.alarms i blank ≡ blank

-- ---- a section

module _ (form : Form) (image : List ℕ) (P : Alarm → Type 0)
    (each : (at : ℕ) (a : Alarm) (next : ℕ) → record_at form image at ≡ Ok (a, next) → P a) where
  more : (k place : ℕ) (alarms filled : List Alarm) (a : Alarm) → place + suc k ≤ length alarms → P a
      → Filling P k (place + 1) (set alarms place a) filled → Filling P (suc k) place alarms filled
  more k place alarms filled a h p f =
      record {
        long = f.long ∙ length-set alarms place a;
        read = λ i l m. read-from i l m (dec_le (place + 1) i);
        front = λ i m. f.front i (omega arith) ∙ get_or-set_other alarms place i a blank (λ e. omega arith);
        behind = λ i m. f.behind i (omega arith) ∙ get_or-set_other alarms place i a blank (λ e. omega arith);
      }
    where
      read-from : (i : ℕ) → place ≤ i → i < place + suc k → Dec (place + 1 ≤ i) → P (get_or filled i blank)
      read-from i l m (yes n) = f.read i n (omega arith)
      read-from i l m (no n) =
          let i≡ : i ≡ place = omega (arith, lt_of_not-le n) in
          let e = f.front place (omega arith) ∙ get_or-set_same alarms place a blank (omega arith) in
          subst P (sym (ap (λ (j : ℕ). get_or filled j blank) i≡ ∙ e)) p

  filling : (n k place at : ℕ) (alarms : List Alarm) {s : Section} → place + k ≤ length alarms
      → records_from form image n k place at alarms ≡ Ok s → Filling P k place alarms s.alarms
  unfolding records_from
  filling n zero place at alarms h e =
      subst (λ (s : Section). Filling P 0 place alarms s.alarms) (ok-same e)
      (record { long = refl; read = λ i l m. absurd (omega arith); front = λ i m. refl; behind = λ i m. refl })
  filling n (suc k) place at alarms {s} h e =
      let f = and-then-ok (record_at form image at) (λ r. records_from form image n k (place + 1) r.1 (set alarms place r.0)) e in
      let a = f.value.0 in
      let rest = filling n k (place + 1) f.value.1 (set alarms place a) (simp length-set (omega arith)) f.follows in
      more k place alarms s.alarms a h (each at a f.value.1 f.was) rest

  section-filling : (first at : ℕ) (alarms : List Alarm) {s : Section} → first + 12 ≤ length alarms
      → section_at form image first at alarms ≡ Ok s → (s.count ≤ 12) × Filling P s.count first alarms s.alarms
  unfolding section_at
  section-filling first at alarms {s} h e =
      let f = and-then-ok (count_at image at) (λ c. records_from form image c.0 c.0 first c.1 alarms) e in
      let n = f.value.0 in
      let most = (count-read image at f.was).most in
      subst (λ (j : ℕ). (j ≤ 12) × Filling P j first alarms s.alarms) (sym (records-count form image n n first f.value.1 alarms f.follows))
      (most, filling n n first f.value.1 alarms (omega arith) f.follows)

-- ---- the whole image

blank-at : (n i : ℕ) → get_or (replicate n blank) i blank ≡ blank
blank-at zero i = refl
blank-at (suc n) zero = refl
blank-at (suc n) (suc i) = blank-at n i

module _ (image : List ℕ) (P : Form → Alarm → Type 0)
    (each : (form : Form) (at : ℕ) (a : Alarm) (next : ℕ) → record_at form image at ≡ Ok (a, next) → P form a) where
  settled-none : Settled P empty
  unfolding empty blanks
  settled-none =
      record {
        most = record { digital = omega arith; analog = omega arith };
        long = length-replicate 24 blank;
        read = λ i m. absurd (omega arith);
        behind = λ i m. blank-at 24 i;
      }

  -- both sections
  settled-both : (d a : ℕ) (alarms filled : List Alarm) → d ≤ 12 → Filling (P Digital) d 0 blanks alarms → a ≤ 12 → Filling (P Analog) a d alarms filled
      → Settled P (record { counts = record { digital = d; analog = a }; alarms = filled })
  unfolding blanks
  settled-both d a alarms filled m x n y =
      record {
        most = record { digital = m; analog = n };
        long = y.long ∙ x.long ∙ length-replicate 24 blank;
        read = λ i h. read-from i h (dec_le d i);
        behind = λ i h. y.behind i h ∙ x.behind i (omega arith) ∙ blank-at 24 i;
      }
    where
      read-from : (i : ℕ) → i < d + a → Dec (d ≤ i) → P (form_at (record { digital = d; analog = a }) i) (get_or filled i blank)
      read-from i h (yes l) = rw (le-ltb i d l) (y.read i l h)
      read-from i h (no l) =
          let k = lt_of_not-le l in
          rw (lt-ltb i d k) (subst (P Digital) (sym (y.front i k)) (x.read i (omega arith) (omega arith)))

  settled-read : {s : Settings} → sections_of image ≡ Ok s → Settled P s
  unfolding blanks
  settled-read e =
      let r = both-read image e in
      let d = r.digital in
      let a = r.analog in
      let x = section-filling Digital image (P Digital) (each Digital) 0 0 blanks (omega (arith, length-replicate 24 blank)) r.first in
      let long : d.count + 12 ≤ length d.alarms = omega (arith, x.0, x.1.long, length-replicate 24 blank) in
      let y = section-filling Analog image (P Analog) (each Analog) d.count d.next d.alarms long r.second in
      subst (Settled P) r.made (settled-both d.count a.count d.alarms a.alarms x.0 x.1 y.0 y.1)

-- what every record of the image in full gives holds of the settings; refused ones have no alarms
pub settled : (image : List ℕ) (P : Form → Alarm → Type 0)
    → ((form : Form) (at : ℕ) (a : Alarm) (next : ℕ) → record_at form (in_full image) at ≡ Ok (a, next) → P form a)
    → Settled P (settings_of image)
settled image P each = go (read_of image) refl
  where
    go : (r : Result Settings Refusal) → read_of image ≡ r → Settled P (result_unwrap_or r empty)
    go (Ok s) e = settled-read (in_full image) P each (read-in-full image ∙ e)
    go (Err r) e = settled-none (in_full image) P each
