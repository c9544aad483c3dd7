-- What a bank keeps is what settings and accepted records say: a fresh bank, and one more record. Assumes nothing.
use mathlib.Core.Path.{◌≡◌, refl, sym, ap, fun_ext, subst, ◌∙◌}
use mathlib.Core.Bool.{false}
use mathlib.Core.List.{List, [], ◌∷◌}
use Prim.Native.Nat.{ℕ, zero, suc, ◌+◌, ◌*◌, ◌≤◌, ◌<◌}
use native.Mathlib.Omega.{arith}
use lib.Ieee.{binary32}
use lib.Ieee.Bits.{of_bits-fits}
use lib.ListN.{length, get_or, replicate, length-replicate, get_or-replicate}
use Rattle.layout.proofs.Laws.{length-placed, placed_below}
use Rattle.settings.specs.Internal.Reals.{real_analog}
use Rattle.wire.specs.Bits.{bit}
use Rattle.wire.specs.Number.{number}
use Rattle.condition.specs.Internal.Mark.{marks_after, time_stamp_after, no_marks}
use Rattle.settings.specs.Counts.{in_all, form_at}
use Rattle.settings.specs.Alarm.{ack_required}
use Rattle.settings.specs.declared.counts.Counts.{Counts}
use Rattle.settings.specs.Internal.Sound.{Sound}
use Rattle.settings.specs.Numbers.{reals}
use Rattle.settings.specs.declared.types.Alarm.{Alarm}
use Rattle.settings.specs.declared.types.Settings.{Settings}
use Rattle.settings.specs.declared.types.Limits.{Limits}
use Rattle.settings.specs.declared.types.Severities.{Severities}
use Rattle.settings.specs.declared.types.Kind.{Kind}
use Rattle.settings.specs.declared.types.Kind.TheVariants.{Digital, Analog}
use Rattle.settings.specs.declared.types.Form.{Form}
use Rattle.settings.specs.declared.types.Form.TheVariants.{Digital as DigitalForm, Analog as AnalogForm}
use Rattle.std.proofs.Common.{Result, Ok}
use Rattle.settings.specs.declared.refusals.Refusal.{Refusal}
use Rattle.reader.specs.Internal.Sound.{SoundSettings}
use Rattle.reader.proofs.Sound.{digital-sound, analog-sound}
use Rattle.state.specs.Internal.Held.{fresh_state, look_digital, real_patterns, look_analog, run_of, cell_of}
use Rattle.state.specs.Internal.Held.{Six, HH, H, L, LL, ROCPos, ROCNeg, Side, High, Low}
use Rattle.state.specs.Internal.Held.{place}
use Rattle.digital.specs.Internal.Digital.{digital_step}
use Rattle.analog.specs.Internal.Analog.{analog_step}
use Rattle.sweep.specs.Internal.Step.{step_kind, step_of}
use Rattle.state.specs.Internal.State.{State, Stepped, starts_of}
use Rattle.analog.proofs.Laws.{InRecord, look-analog}
use Rattle.alarm_history.specs.Scans.{Scan}
use Rattle.alarm_history.specs.Internal.After.{fresh_analog, reset_kept, digital_run, analog_run, digital_marks, analog_marks}
use Rattle.alarm_history.proofs.Digital.{digital-required}
use Rattle.alarm_history.proofs.Analog.{analog-required}
use Rattle.scan_record.specs.Part.{time_of, reading_at, offset_of}
use Rattle.scan_record.specs.declared.entry.Entry.{Entry}
use Rattle.scan_record.proofs.Entries.{PartRead, all_read, accepted-says}
use Rattle.marks.specs.Internal.Marks.{marks_at, turn_at}
use Rattle.marks.proofs.Reading.{marks-length, mark-read, reset-read}
use Rattle.scan.specs.Internal.Plan.{step_entry, step_part, step_at, plan_of}
use Rattle.scan.proofs.Plans.{word_at}
use Rattle.bank.specs.Internal.Bank.{Bank, fresh_bank}
use Rattle.scan.specs.Internal.Scan.{check_of, alarms_of, plan_for, bank_after}
use Rattle.bank_history.specs.Answers.{alarm_at, scan_at, scans_at, last_accepted}
use Rattle.bank_history.proofs.Views.{DigitalView, digital-view, AnalogView, analog-view}

abbrev pub state_at : Bank → ℕ → State
state_at b p = get_or b.states p fresh_state

-- a bank with accepted settings keeps what those records say, the latest first
pub record Kept (image : List ℕ) (past : List (List ℕ)) (b : Bank) : Type 0 where
  pub sound : SoundSettings b.settings
  pub time : b.time ≡ last_accepted past
  pub states-long : length b.states ≡ 24
  pub marks-long : length b.marks ≡ 900
  pub digital : (p : ℕ) → p < b.settings.counts.digital
      → DigitalView (alarm_at b.settings p) (state_at b p) b.marks (25 * p) (scans_at b.settings p past)
  pub analog : (p : ℕ) → b.settings.counts.digital ≤ p → p < in_all b.settings.counts
      → AnalogView reals real_patterns (real_analog (alarm_at b.settings p)) (state_at b p) b.marks (25 * p) (scans_at b.settings p past)

-- ---- a fresh bank

zeros : (n j : ℕ) → ◌≡◌ {A = ℕ} (get_or (replicate n 0) j 0) 0
zeros zero j = refl
zeros (suc n) zero = refl
zeros (suc n) (suc j) = zeros n j

no-marks : (at : ℕ) → marks_at (replicate 900 0) at ≡ no_marks
no-marks at =
    λ i. record { count = zeros 900 at i; alarm = zeros 900 (at + 1) i; ack = zeros 900 (at + 2) i; return = zeros 900 (at + 3) i }

fresh-run : (s : Side) → run_of fresh_state s ≡ (fresh_analog reals).run s
fresh-run High = refl
fresh-run Low = refl

fresh-cell : (c : Six) → cell_of fresh_state c ≡ (fresh_analog reals).cell c
fresh-cell HH = refl
fresh-cell H = refl
fresh-cell L = refl
fresh-cell LL = refl
fresh-cell ROCPos = refl
fresh-cell ROCNeg = refl

fresh-analog : look_analog real_patterns fresh_state ≡ fresh_analog reals
fresh-analog =
    λ i.
    record {
      disabled = false;
      suppressed = false;
      faulted = false;
      held = false;
      previous = 0;
      sample = (fresh_analog reals).sample;
      run = fun_ext fresh-run i;
      cell = fun_ext fresh-cell i;
    }

pub fresh_kept : (image : List ℕ) (s : Settings) → SoundSettings s → Kept image [] (fresh_bank s)
unfolding fresh_bank digital_run analog_run digital_marks analog_marks reset_kept
fresh_kept image s ok =
    record {
      sound = ok;
      time = refl;
      states-long = length-replicate 24 fresh_state;
      marks-long = length-replicate {A = ℕ} 900 0;
      digital = λ p h.
          record {
            held = ap look_digital (get_or-replicate 24 p fresh_state fresh_state (omega (arith, ok.most)));
            marked = no-marks (25 * p + 1);
            stamped = zeros 900 (25 * p);
          };
      analog = λ p l h.
          record {
            held = ap (look_analog real_patterns) (get_or-replicate 24 p fresh_state fresh_state (omega (arith, ok.most))) ∙ fresh-analog;
            marked = λ c. no-marks (25 * p + 1 + 4 * place c);
            stamped = zeros 900 (25 * p);
          };
    }

-- ---- the kinds of accepted alarms

pub digital-kind : (k : Kind) (flags duration : ℕ) → Sound DigitalForm k flags duration → (severity : ℕ) × (k ≡ Digital severity)
digital-kind (Digital severity) flags duration h = (severity, refl)
digital-kind (Analog g severities period) flags duration h = absurd h

pub analog-kind : (k : Kind) (flags duration : ℕ) → Sound AnalogForm k flags duration
    → (g : Limits) × (severities : Severities) × (period : ℕ) × (k ≡ Analog g severities period)
analog-kind (Digital severity) flags duration h = absurd h
analog-kind (Analog g severities period) flags duration h = (g, severities, period, refl)

place-six : (c : Six) → place c < 6
place-six HH = omega arith
place-six H = omega arith
place-six L = omega arith
place-six LL = omega arith
place-six ROCPos = omega arith
place-six ROCNeg = omega arith

-- ---- one more record that passed the check

-- a reading of a record is a REAL of 32 bits, or a digital one
in-record : (f : Form) (rec : List ℕ) (at : ℕ) → InRecord (reading_at f rec at)
in-record DigitalForm rec at = tt
in-record AnalogForm rec at = of_bits-fits binary32 (number rec at 4)

module _ (image : List ℕ) (past : List (List ℕ)) (b : Bank) (rec : List ℕ) (v : Kept image past b) (ok : check_of b rec ≡ Ok tt) where
  abbrev counts : Counts
  counts = b.settings.counts

  abbrev digital : ℕ
  digital = counts.digital

  abbrev alarm : ℕ → Alarm
  alarm p = alarm_at b.settings p

  -- the record as the alarm at a place sees it
  abbrev seen : ℕ → Scan
  seen p = scan_at b.settings p rec

  most : alarms_of b ≤ 24
  most = omega (arith, v.sound.most)

  pub digital-of : (p : ℕ) → p < digital → (severity : ℕ) × ((alarm p).kind ≡ Digital severity)
  digital-of p h = digital-kind (alarm p).kind (alarm p).flags (alarm p).duration (digital-sound b.settings v.sound p h)

  pub analog-of : (p : ℕ) → digital ≤ p → p < alarms_of b
      → (g : Limits) × (severities : Severities) × (period : ℕ) × ((alarm p).kind ≡ Analog g severities period)
  analog-of p l h = analog-kind (alarm p).kind (alarm p).flags (alarm p).duration (analog-sound b.settings v.sound p l h)

  parts : (p : ℕ) → p < alarms_of b → PartRead rec counts p
  parts p h =
      all_read rec counts (alarms_of b) 0 8 (omega arith) (accepted-says counts b.time rec ok).2 p (omega arith) (omega arith)

  stepped-is : (p : ℕ) → p < alarms_of b
      → step_at rec counts b.settings.alarms b.states (time_of rec) p ≡ step_of (alarm p) (state_at b p) (seen p).reading (seen p).word (seen p).time
  unfolding step_part
  stepped-is p h = ap (λ (e : Result Entry Refusal). step_entry e (alarm p) (state_at b p) (time_of rec)) (parts p h)

  pub digital-stepped : (p : ℕ) → p < digital
      → step_at rec counts b.settings.alarms b.states (time_of rec) p
      ≡ digital_step (alarm p) (state_at b p) (seen p).reading (seen p).word (seen p).time
  unfolding step_kind
  digital-stepped p h =
      stepped-is p (omega arith) ∙ ap (λ (q : Kind). step_kind q (alarm p) (state_at b p) (seen p).reading (seen p).word (seen p).time) (digital-of p h).1

  pub analog-stepped : (p : ℕ) → digital ≤ p → p < alarms_of b
      → step_at rec counts b.settings.alarms b.states (time_of rec) p
      ≡ analog_step reals real_patterns (real_analog (alarm p)) (state_at b p) (seen p).reading (seen p).word (seen p).time
  unfolding step_kind
  analog-stepped p l h =
      stepped-is p h ∙ ap (λ (q : Kind). step_kind q (alarm p) (state_at b p) (seen p).reading (seen p).word (seen p).time) (analog-of p l h).3

  -- the state after the record, and the event word, of the alarm at a place
  pub state-after : (p : ℕ) → p < alarms_of b
      → get_or (plan_for b rec).states p fresh_state ≡ (step_at rec counts b.settings.alarms b.states (time_of rec) p).state
  unfolding plan_of
  state-after p h =
      placed_below (λ q. (step_at rec counts b.settings.alarms b.states (time_of rec) q).state) (alarms_of b) p b.states fresh_state h
      (omega (arith, most, v.states-long))

  pub word_after : (p : ℕ) → p < alarms_of b → get_or (plan_for b rec).events p 0 ≡ (step_at rec counts b.settings.alarms b.states (time_of rec) p).events
  word_after p h = word_at rec counts b.settings.alarms b.states (time_of rec) most p h

  -- its words after the record
  abbrev marks_next : List ℕ
  marks_next = (bank_after b rec).marks

  -- the starts of the conditions' rows of the alarm at a place, after the record
  abbrev starts : ℕ → List ℕ
  starts p = starts_of (get_or (plan_for b rec).states p fresh_state)

  marked-after : (p c : ℕ) → p < alarms_of b → c < 6 → {r : Stepped} → step_at rec counts b.settings.alarms b.states (time_of rec) p ≡ r
      → marks_at marks_next (25 * p + 1 + 4 * c)
      ≡ marks_after (turn_at (ack_required (alarm p).kind (alarm p).flags) (starts_of r.state) r.events (time_of rec) c)
      (marks_at b.marks (25 * p + 1 + 4 * c))
  marked-after p c h l {r} e =
      let w = word_after p h ∙ ap (λ (t : Stepped). t.events) e in
      let s = state-after p h ∙ ap (λ (t : Stepped). t.state) e in
      mark-read b.settings.alarms starts (plan_for b rec).events (time_of rec) (alarms_of b) p c b.marks h l (omega (arith, most, v.marks-long))
      ∙ (λ i.
      marks_after (turn_at (ack_required (alarm p).kind (alarm p).flags) (starts_of (s i)) (w i) (time_of rec) c) (marks_at b.marks (25 * p + 1 + 4 * c)))

  stamped-after : (p : ℕ) → p < alarms_of b → {r : Stepped} → step_at rec counts b.settings.alarms b.states (time_of rec) p ≡ r
      → get_or marks_next (25 * p) 0 ≡ time_stamp_after (bit r.events 4) (time_of rec) (get_or b.marks (25 * p) 0)
  stamped-after p h {r} e =
      reset-read b.settings.alarms starts (plan_for b rec).events (time_of rec) (alarms_of b) p b.marks h (omega (arith, most, v.marks-long))
      ∙ ap (λ (w : ℕ). time_stamp_after (bit w 4) (time_of rec) (get_or b.marks (25 * p) 0)) (word_after p h ∙ ap (λ (t : Stepped). t.events) e)

  digital-next : (p : ℕ) → p < digital
      → DigitalView (alarm p) (get_or (plan_for b rec).states p fresh_state) marks_next (25 * p) (scans_at b.settings p (rec ∷ past))
  digital-next p h =
      let e = digital-stepped p h in
      let l : p < alarms_of b = omega arith in
      let first : 25 * p + 1 + 4 * 0 ≡ 25 * p + 1 = omega arith in
      subst (λ (s : State). DigitalView (alarm p) s marks_next (25 * p) (scans_at b.settings p (rec ∷ past)))
      (sym (state-after p l ∙ ap (λ (t : Stepped). t.state) e))
      (digital-view (alarm p) (state_at b p) (seen p) b.marks marks_next (25 * p) (scans_at b.settings p past) (v.digital p h)
      (rw (first, ← digital-required (alarm p) (digital-of p h).1) at (marked-after p 0 l (omega arith) e))
      (stamped-after p l e))

  analog-next : (p : ℕ) → digital ≤ p → p < alarms_of b
      → AnalogView reals real_patterns (real_analog (alarm p)) (get_or (plan_for b rec).states p fresh_state) marks_next (25 * p)
      (scans_at b.settings p (rec ∷ past))
  analog-next p l h =
      let e = analog-stepped p l h in
      let a = real_analog (alarm p) in
      let x = seen p in
      let read = look-analog a (state_at b p) x.reading x.word x.time (in-record (form_at counts p) rec (offset_of counts p)) in
      subst (λ (s : State). AnalogView reals real_patterns a s marks_next (25 * p) (scans_at b.settings p (rec ∷ past)))
      (sym (state-after p h ∙ ap (λ (t : Stepped). t.state) e))
      (analog-view reals real_patterns a (state_at b p) x read b.marks marks_next (25 * p) (scans_at b.settings p past) (v.analog p l h)
      (λ c. rw (← analog-required (alarm p) (analog-of p l h).3) at (marked-after p (place c) h (place-six c) e))
      (stamped-after p h e))

  pub next-kept : Kept image (rec ∷ past) (bank_after b rec)
  unfolding plan_of
  next-kept =
      record {
        sound = v.sound;
        time = refl;
        states-long = length-placed (λ q. (step_at rec counts b.settings.alarms b.states (time_of rec) q).state) (alarms_of b) b.states ∙ v.states-long;
        marks-long = marks-length b.settings.alarms starts (plan_for b rec).events (time_of rec) (alarms_of b) b.marks ∙ v.marks-long;
        digital = digital-next;
        analog = analog-next;
      }
