-- How long an event buffer must be: 3,840 bytes always suffice. Assumes nothing.
use mathlib.Core.Path.{◌≡◌, refl, sym, ap, subst, ◌∙◌}
use mathlib.Core.Bool.{Bool, true, false}
use mathlib.Core.List.{List, [], ◌∷◌}
use Prim.Native.Nat.{ℕ, zero, suc, ◌+◌, ◌*◌, ◌/◌, ◌%◌, ◌≤◌, ◌<◌}
use native.Mathlib.Omega.{arith}
use borrow.Author.Tests.{le-ltb, ltb-true, ltb-false}
use native.Mathlib.Nat.{le_refl}
use lib.Dec.{ltb}
use lib.Count.{ones, ones_step}
use lib.ListN.{length, get_or}
use Rattle.settings.specs.Internal.Reals.{real_analog}
use Rattle.wire.specs.Internal.Words.{word_of, how_many}
use Rattle.settings.specs.Numbers.{reals}
use Rattle.std.proofs.Common.{Result, Ok, Err}
use Rattle.std.specs.Result.{is_ok}
use Rattle.settings.specs.declared.refusals.Refusal.{Refusal}
use Rattle.settings.specs.declared.types.Kind.{Kind}
use Rattle.settings.specs.declared.types.Kind.TheVariants.{Digital, Analog}
use Rattle.state.specs.Internal.Held.{look_digital, real_patterns, look_analog}
use Rattle.digital.specs.Internal.Digital.{digital_events, digital_step}
use Rattle.analog.specs.Internal.Analog.{analog_events, analog_step}
use Rattle.settings.specs.declared.types.Alarm.{Alarm}
use Rattle.sweep.specs.Internal.Step.{step_kind}
use Rattle.state.specs.Internal.State.{State}
use Rattle.settings.specs.declared.types.Reading.{Reading}
use Rattle.digital.proofs.Laws.{digital-most}
use Rattle.analog.proofs.Laws.{analog-most}
use Rattle.scan_record.specs.Part.{time_of, offset_of}
use Rattle.settings.specs.Counts.{sum_of, in_front, form_at}
use Rattle.settings.specs.declared.counts.Counts.{Counts}
use Rattle.reader.proofs.Sound.{digital-sound}
use Rattle.scan_record.specs.Entry.{entry_at}
use Rattle.scan_record.specs.declared.entry.Entry.{Entry}
use Rattle.scan.specs.Internal.Plan.{step_entry, step_part, step_at, count_of}
use Rattle.sweep.specs.Internal.Sweep.{most_events}
use Rattle.scan.proofs.Plans.{word_at, word_small, up-to-count}
use Rattle.scan.specs.Internal.Scan.{Scanned, check_of, alarms_of, plan_for, events_in, checked_scan, scan_of}
use Rattle.bank.specs.Internal.Bank.{Bank}
use Rattle.scan.proofs.Scans.{accepted-scan}
use Rattle.bank_history.specs.Answers.{alarm_at}
use Rattle.bank_history.proofs.Banks.{Kept, state_at, digital-kind}

-- a record that passed the check is accepted where its events have room
pub accepted-with-room : (b : Bank) (rec : List ℕ) (room : ℕ) → check_of b rec ≡ Ok tt → 16 * length (events_in b rec) ≤ room
    → is_ok (scan_of b rec room).answer ≡ true
unfolding checked_scan
accepted-with-room b rec room ok h =
    ap (λ (x : Scanned). is_ok x.answer) (accepted-scan b rec room ok) ∙ rw (le-ltb room (16 * length (events_in b rec)) h) refl

-- ---- 3,840 bytes

-- a word has as many bits set as its list
word_ones : (bs : List Bool) → ones (word_of bs) ≡ how_many bs
unfolding word_of how_many ones
word_ones [] = refl
word_ones (true ∷ bs) =
    let low : (1 + 2 * word_of bs) % 2 ≡ 1 = omega arith in
    let half : (1 + 2 * word_of bs) / 2 ≡ word_of bs = omega arith in
    omega (arith, ones_step (1 + 2 * word_of bs), ap ones half, word_ones bs)
word_ones (false ∷ bs) =
    let low : (0 + 2 * word_of bs) % 2 ≡ 0 = omega arith in
    let half : (0 + 2 * word_of bs) / 2 ≡ word_of bs = omega arith in
    omega (arith, ones_step (0 + 2 * word_of bs), ap ones half, word_ones bs)

no_ones : ones 0 ≡ 0
unfolding ones
no_ones = refl

-- an alarm of any kind has at most 15 events, a digital one at most 5
step-most : (k : Kind) (a : Alarm) (s : State) (x : Reading) (word time : ℕ) → ones (step_kind k a s x word time).events ≤ 15
unfolding step_kind digital_step analog_step
step-most (Digital severity) a s x word time =
    omega (arith, word_ones (digital_events a x word time (look_digital s)), digital-most a x word time (look_digital s))
step-most (Analog g severities period) a s x word time =
    let held = look_analog real_patterns s in
    omega (arith, word_ones (analog_events reals (real_analog a) x word time held), analog-most reals (real_analog a) x word time held)

digital-step-most : (severity : ℕ) (a : Alarm) (s : State) (x : Reading) (word time : ℕ) → ones (step_kind (Digital severity) a s x word time).events ≤ 5
unfolding step_kind digital_step
digital-step-most severity a s x word time =
    omega (arith, word_ones (digital_events a x word time (look_digital s)), digital-most a x word time (look_digital s))

entry-most : (e : Result Entry Refusal) (a : Alarm) (s : State) (time : ℕ) → ones (step_entry e a s time).events ≤ 15
entry-most (Ok e) a s time = step-most a.kind a s e.reading e.word time
entry-most (Err r) a s time = omega (arith, no_ones)

digital-entry-most : (e : Result Entry Refusal) (a : Alarm) (s : State) (time : ℕ) {severity : ℕ} → a.kind ≡ Digital severity
    → ones (step_entry e a s time).events ≤ 5
digital-entry-most (Ok e) a s time {severity} k =
    subst (λ (q : Kind). ones (step_kind q a s e.reading e.word time).events ≤ 5) (sym k) (digital-step-most severity a s e.reading e.word time)
digital-entry-most (Err r) a s time k = omega (arith, no_ones)

module _ (image : List ℕ) (past : List (List ℕ)) (b : Bank) (rec : List ℕ) (v : Kept image past b) where
  abbrev counts : Counts
  counts = b.settings.counts

  abbrev digital : ℕ
  digital = counts.digital

  most : alarms_of b ≤ 24
  most = omega (arith, v.sound.most)

  word-of : (p : ℕ) → p < alarms_of b → get_or (plan_for b rec).events p 0 ≡ (step_at rec counts b.settings.alarms b.states (time_of rec) p).events
  word-of p h = word_at rec counts b.settings.alarms b.states (time_of rec) most p h

  -- the part of the record for the alarm at a place
  abbrev entry : ℕ → Result Entry Refusal
  entry p = entry_at (form_at counts p) rec (offset_of counts p) (p + 1)

  any-most : (p : ℕ) → p < alarms_of b → ones (get_or (plan_for b rec).events p 0) ≤ 15
  unfolding step_part
  any-most p h = rw (word-of p h) (entry-most (entry p) (alarm_at b.settings p) (state_at b p) (time_of rec))

  low-most : (p : ℕ) → p < digital → ones (get_or (plan_for b rec).events p 0) ≤ 5
  unfolding step_part
  low-most p h =
      let a = alarm_at b.settings p in
      let k = digital-kind a.kind a.flags a.duration (digital-sound b.settings v.sound p h) in
      let l : p < alarms_of b = omega arith in
      rw (word-of p l) (digital-entry-most (entry p) a (state_at b p) (time_of rec) k.1)

  -- the first n alarms
  count_most : (n : ℕ) → n ≤ alarms_of b → count_of (plan_for b rec).events n ≤ sum_of most_events (in_front counts n)
  unfolding count_of
  count_most zero h = omega arith
  count_most (suc n) h = go (ltb n digital) refl (count_most n (omega arith))
    where
      go : (t : Bool) → ltb n digital ≡ t → count_of (plan_for b rec).events n ≤ sum_of most_events (in_front counts n)
          → count_of (plan_for b rec).events n + ones (get_or (plan_for b rec).events n 0) ≤ sum_of most_events (in_front counts (suc n))
      go true e ih = omega (arith, ltb-true n digital e, low-most n (ltb-true n digital e), ih)
      go false e ih = omega (arith, ltb-false n digital e, any-most n (omega arith), ih)

  -- the events of any record, on a bank that calls handed back, take at most 3,840 bytes
  pub enough : 16 * length (events_in b rec) ≤ 3840
  enough =
      omega (
        arith,
        up-to-count b.settings.alarms (plan_for b rec).states (plan_for b rec).events (time_of rec) (alarms_of b)
            (λ i h. word_small rec counts b.settings.alarms b.states (time_of rec) most i h),
        count_most (alarms_of b) (le_refl (alarms_of b)),
        v.sound.most,
      )
