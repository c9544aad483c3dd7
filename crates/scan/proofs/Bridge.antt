-- What a checked record makes of the words is what it makes of the bank that they stand for. Assumes nothing.
use borrow.Author.Tests.{ltb-true, ltb-false}
use mathlib.Core.Path.{◌≡◌, refl, sym, ap, ◌∙◌}
use mathlib.Core.Bool.{Bool, true, false}
use mathlib.Core.List.{List, [], ◌∷◌, ◌++◌}
use Prim.Native.Nat.{ℕ, zero, suc, ◌+◌, ◌≤◌, ◌<◌}
use native.Mathlib.Nat.{zero-add}
use native.Mathlib.Omega.{arith}
use lib.Dec.{ltb}
use lib.ListN.{length, get_or, replicate, length-replicate}
use lib.Seq.{sets, get_or-set_same, ext_get_or}
use Rattle.layout.proofs.Laws.{length-placed, placed-above, placed_below}
use Rattle.wire.proofs.Laws.{below}
use Rattle.std.proofs.Common.{Result, Ok}
use Rattle.settings.specs.declared.refusals.Refusal.{Refusal}
use Rattle.settings.specs.declared.counts.Counts.{Counts}
use Rattle.layout.specs.Internal.Block.{placed, counts_in, count_in, alarm_on, settings_in, state_at}
use Rattle.scan_record.specs.Part.{time_of}
use Rattle.scan_record.specs.Check.{check_from, check_record}
use Rattle.scan_record.proofs.Entries.{PartRead, Whole, all_read, accepted-says}
use Rattle.state.specs.Internal.Held.{fresh_state}
use Rattle.state.specs.Internal.State.{State, Stepped, state_in, state_words}
use Rattle.state.proofs.Back.{put_back, state-above, state-below}
use Rattle.marks.specs.Internal.Marks.{mark_alarms}
use Rattle.sweep.specs.Internal.Sweep.{Ready, alarm_marks, place_step, alarm_events, step_on, events_on, stepped_from, marked_from, logged_from, words_after}
use Rattle.scan.specs.Internal.Plan.{step_entry, step_part, step_at, plan_of, events_up_to}
use Rattle.scan.specs.Internal.Scan.{check_of, plan_for, starts_after, events_in, bank_after}
use Rattle.bank.specs.Lent.{Words}
use Rattle.bank.specs.Internal.Words.{bank_in}
use Rattle.bank.proofs.Places.{alarm-there, state-there}
use Rattle.sweep.proofs.Stepped.{small-on}
use Rattle.sweep.proofs.Loops.{not_yet, stepped-length}

module _ (w : Words) (rec : List ℕ) (accepted : check_of (bank_in w) rec ≡ Ok tt) where
  abbrev counts : Counts
  counts = counts_in w.settings

  abbrev count : ℕ
  count = count_in w.settings

  says : Whole counts (length rec) × (get_or w.states 0 0 ≤ time_of rec) × (check_from rec counts count 0 8 ≡ Ok tt)
  unfolding bank_in settings_in
  says = accepted-says counts (get_or w.states 0 0) rec accepted

  whole : Whole counts (length rec)
  whole = says.0

  most : count ≤ 24
  most = omega (arith, whole.most)

  ready : (length w.settings ≡ 292) × (length w.states ≡ 580) × (length w.marks ≡ 900) → Ready w rec counts
  ready l =
      record {
        most = whole.most;
        settings-long = l.0;
        states-long = l.1;
        marks-long = l.2;
        counts-are = refl;
        record-long = whole.size;
      }

  read : (p : ℕ) → p < count → PartRead rec counts p
  read p h = all_read rec counts count 0 8 (omega arith) says.2 p (omega arith) (omega arith)

  -- ---- the step at a place

  pub step_is : (p : ℕ) → p < count → step_at rec (bank_in w).settings.counts (bank_in w).settings.alarms (bank_in w).states (time_of rec) p ≡ step_on w rec p
  unfolding step_part step_on place_step bank_in settings_in
  step_is p h = λ i. step_entry (read p h i) (alarm-there w p most h i) (state-there w p (omega (arith, most)) i) (time_of rec)

  state-after : (p : ℕ) → p < count → get_or (plan_for (bank_in w) rec).states p fresh_state ≡ (step_on w rec p).state
  unfolding plan_of bank_in settings_in
  state-after p h =
      placed_below (λ q. (step_at rec counts (bank_in w).settings.alarms (bank_in w).states (time_of rec) q).state) count p (bank_in w).states fresh_state h
      (omega (arith, most, length-placed (λ q. state_in w.states (state_at q)) 24 (replicate 24 fresh_state), length-replicate 24 fresh_state))
      ∙ ap (λ (s : Stepped). s.state) (step_is p h)

  event-after : (p : ℕ) → p < count → get_or (plan_for (bank_in w) rec).events p 0 ≡ (step_on w rec p).events
  unfolding plan_of bank_in settings_in
  event-after p h =
      placed_below (λ q. (step_at rec counts (bank_in w).settings.alarms (bank_in w).states (time_of rec) q).events) count p (replicate 24 0) 0 h
      (omega (arith, most, length-replicate {A = ℕ} 24 0))
      ∙ ap (λ (s : Stepped). s.events) (step_is p h)

  -- ---- events, counts and stamps

  events-to : (n : ℕ) → n ≤ count
      → events_up_to (bank_in w).settings.alarms (plan_for (bank_in w) rec).states (plan_for (bank_in w) rec).events (time_of rec) n ≡ logged_from w rec 0 n
  unfolding events_up_to logged_from events_on
  events-to zero h = refl
  events-to (suc n) h =
      let a = alarm-there w n most (omega arith) in
      let s = state-after n (omega arith) in
      let e = event-after n (omega arith) in
      let p : suc n ≡ n + 1 = omega arith in
      (λ i. events-to n (omega arith) i ++ alarm_events (p i) (a i) (s i) (e i) (time_of rec))
      ∙ ap (λ (q : ℕ). logged_from w rec 0 n ++ events_on w rec q) (sym (zero-add n))

  pub events-are : events_in (bank_in w) rec ≡ logged_from w rec 0 count
  unfolding bank_in settings_in
  events-are = events-to count (omega arith)

  marks-to : (n : ℕ) → n ≤ count
      → mark_alarms (bank_in w).settings.alarms (starts_after (bank_in w) rec) (plan_for (bank_in w) rec).events (time_of rec) n (bank_in w).marks
      ≡ marked_from w rec 0 n
  unfolding mark_alarms marked_from bank_in
  marks-to zero h = refl
  marks-to (suc n) h =
      let a = alarm-there w n most (omega arith) in
      let s = state-after n (omega arith) in
      let e = event-after n (omega arith) in
      (λ i. alarm_marks n (a i) (s i) (e i) (time_of rec) (marks-to n (omega arith) i))
      ∙ ap
      (λ (q : ℕ). alarm_marks q (alarm_on w.settings q) (step_on w rec q).state (step_on w rec q).events (time_of rec) (marked_from w rec 0 n))
      (sym (zero-add n))

  -- ---- the bank after it

  -- the words of the alarm at a place, after n alarms
  stepped-state : length w.states ≡ 580 → (n p : ℕ) → n ≤ count → p < n → state_in (stepped_from w rec 0 n) (state_at p) ≡ (step_on w rec p).state
  unfolding stepped_from
  stepped-state long zero p m h = absurd (omega arith)
  stepped-state long (suc n) p m h =
      let next : List ℕ = sets (stepped_from w rec 0 n) (state_at (0 + n)) (state_words (step_on w rec (0 + n)).state) in
      below (λ (q : ℕ). state_in next (state_at q) ≡ (step_on w rec q).state) h
      (ap (λ (q : ℕ). state_in next (state_at q)) (sym (zero-add n)) ∙ stored n (omega arith) ∙ ap (λ (q : ℕ). (step_on w rec q).state) (zero-add n))
      (λ l.
      state-below (stepped_from w rec 0 n) (state_at (0 + n)) (state_words (step_on w rec (0 + n)).state) (state_at p) (omega arith)
      ∙ stepped-state long n p (omega arith) l)
    where
      stored : (n : ℕ) → suc n ≤ count
          → state_in (sets (stepped_from w rec 0 n) (state_at (0 + n)) (state_words (step_on w rec (0 + n)).state)) (state_at (0 + n))
          ≡ (step_on w rec (0 + n)).state
      stored n h =
          put_back (stepped_from w rec 0 n) (state_at (0 + n)) (step_on w rec (0 + n)).state (omega (arith, most, stepped-length w rec 0 n, long))
          (small-on w rec (0 + n))

  module _ (long : length w.states ≡ 580) where
    abbrev stepped : List ℕ
    stepped = stepped_from w rec 0 count

    abbrev state_of : ℕ → State
    state_of p = state_in (words_after w rec).states (state_at p)

    -- the time in front is no state's
    behind : (p : ℕ) → state_of p ≡ state_in stepped (state_at p)
    unfolding words_after
    behind p = state-above stepped 0 (time_of rec ∷ []) (state_at p) (omega arith)

    above : (p : ℕ) → count ≤ p → get_or (plan_for (bank_in w) rec).states p fresh_state ≡ get_or (bank_in w).states p fresh_state
    unfolding plan_of bank_in settings_in
    above p h =
        placed-above (λ q. (step_at rec counts (bank_in w).settings.alarms (bank_in w).states (time_of rec) q).state) count p (bank_in w).states fresh_state h

    planned : (p : ℕ) → p < 24 → (t : Bool) → ltb p count ≡ t → state_of p ≡ get_or (plan_for (bank_in w) rec).states p fresh_state
    planned p h true e = let l = ltb-true p count e in behind p ∙ stepped-state long count p (omega arith) l ∙ sym (state-after p l)
    planned p h false e =
        behind p ∙ not_yet w rec 0 count p (omega (arith, ltb-false p count e)) ∙ sym (state-there w p h) ∙ sym (above p (ltb-false p count e))

    plan-long : length (plan_for (bank_in w) rec).states ≡ 24
    unfolding plan_of bank_in settings_in
    plan-long =
        length-placed (λ q. (step_at rec counts (bank_in w).settings.alarms (bank_in w).states (time_of rec) q).state) count (bank_in w).states
        ∙ length-placed (λ q. state_in w.states (state_at q)) 24 (replicate 24 fresh_state)
        ∙ length-replicate 24 fresh_state

    states-are : placed state_of 24 (replicate 24 fresh_state) ≡ (plan_for (bank_in w) rec).states
    states-are =
        let n = length-placed state_of 24 (replicate 24 fresh_state) ∙ length-replicate 24 fresh_state in
        ext_get_or fresh_state (placed state_of 24 (replicate 24 fresh_state)) (plan_for (bank_in w) rec).states (n ∙ sym plan-long)
        (λ p h.
        let l : p < 24 = omega (arith, n) in
        placed_below state_of 24 p (replicate 24 fresh_state) fresh_state l (omega (arith, length-replicate 24 fresh_state))
        ∙ planned p l (ltb p count) refl)

    time-is : get_or (words_after w rec).states 0 0 ≡ time_of rec
    unfolding words_after
    time-is = get_or-set_same stepped 0 (time_of rec) 0 (omega (arith, stepped-length w rec 0 count, long))

    pub bank-after : bank_in (words_after w rec) ≡ bank_after (bank_in w) rec
    unfolding bank_in words_after settings_in
    bank-after = λ i. record { settings = settings_in w.settings; time = time-is i; states = states-are i; marks = sym (marks-to count (omega arith)) i }

-- ---- of counts that were read off the words

module _ (w : Words) (rec : List ℕ) {counts : Counts} (e : counts ≡ counts_in w.settings) where
  pub check-is : {r : Result (Unit {0}) Refusal} → check_record counts (get_or w.states 0 0) rec ≡ r → check_of (bank_in w) rec ≡ r
  unfolding bank_in settings_in
  check-is h = ap (λ (k : Counts). check_record k (get_or w.states 0 0) rec) (sym e) ∙ h

  pub ready_for : check_record counts (get_or w.states 0 0) rec ≡ Ok tt
      → (length w.settings ≡ 292) × (length w.states ≡ 580) × (length w.marks ≡ 900) → Ready w rec counts
  ready_for h l = rw e (ready w rec (check-is h) l)
