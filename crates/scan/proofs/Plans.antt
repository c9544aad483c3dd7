-- Laws of what a scan makes of the alarms, one after the other: their event words, and how many events. Assumes nothing.
use mathlib.Core.Path.{◌≡◌, refl}
use mathlib.Core.List.{List}
use Prim.Native.Nat.{ℕ, zero, suc, ◌+◌, ◌^◌, ◌≤◌, ◌<◌}
use native.Mathlib.Omega.{arith}
use lib.ListN.{length, get_or, replicate, length-append}
use Rattle.layout.proofs.Laws.{placed_below}
use Rattle.settings.specs.Internal.Reals.{real_analog}
use Rattle.wire.specs.Bits.{bit}
use Rattle.wire.proofs.WordLaws.{word_lt}
use Rattle.wire.specs.Internal.Places.{word_bits}
use Rattle.settings.specs.Counts.{in_all, form_at}
use Rattle.settings.specs.Alarm.{blank}
use Rattle.settings.specs.declared.counts.Counts.{Counts}
use Rattle.settings.specs.Numbers.{reals}
use Rattle.settings.specs.declared.types.Alarm.{Alarm}
use Rattle.settings.specs.declared.types.Kind.{Kind}
use Rattle.settings.specs.declared.types.Kind.TheVariants.{Digital, Analog}
use Rattle.settings.specs.declared.types.Reading.{Reading}
use Rattle.state.specs.Internal.Held.{fresh_state, look_digital, real_patterns, look_analog}
use Rattle.digital.specs.Internal.Digital.{digital_events, digital_step}
use Rattle.analog.specs.Internal.Analog.{analog_events, analog_step}
use Rattle.sweep.specs.Internal.Step.{step_kind}
use Rattle.state.specs.Internal.State.{State}
use Rattle.event.proofs.Logs.{events-ones}
use Rattle.std.proofs.Common.{Result, Ok, Err}
use Rattle.settings.specs.declared.refusals.Refusal.{Refusal}
use Rattle.scan_record.specs.declared.entry.Entry.{Entry}
use Rattle.scan_record.specs.Part.{offset_of}
use Rattle.scan_record.specs.Entry.{entry_at}
use Rattle.sweep.specs.Internal.Sweep.{alarm_events}
use Rattle.scan.specs.Internal.Plan.{step_entry, step_part, step_at, plan_of, count_of, events_up_to}

-- ---- event words

-- how long an event word is
step-word : (k : Kind) (a : Alarm) (s : State) (x : Reading) (word time : ℕ) → (step_kind k a s x word time).events < 2 ^ word_bits
unfolding step_kind digital_step analog_step
step-word (Digital severity) a s x word time = omega (arith, word_lt (digital_events a x word time (look_digital s)))
step-word (Analog g severities period) a s x word time = omega (arith, word_lt (analog_events reals (real_analog a) x word time (look_analog real_patterns s)))

entry-word : (e : Result Entry Refusal) (a : Alarm) (s : State) (time : ℕ) → (step_entry e a s time).events < 2 ^ word_bits
entry-word (Ok e) a s time = step-word a.kind a s e.reading e.word time
entry-word (Err r) a s time = omega arith

module _ (rec : List ℕ) (counts : Counts) (alarms : List Alarm) (states : List State) (time : ℕ) (most : in_all counts ≤ 24) where
  -- the event word of the alarm at a place
  pub word_at : (i : ℕ) → i < in_all counts → get_or (plan_of rec counts alarms states time).events i 0 ≡ (step_at rec counts alarms states time i).events
  unfolding plan_of
  word_at i h = placed_below (λ p. (step_at rec counts alarms states time p).events) (in_all counts) i (replicate 24 0) 0 h most

  pub word_small : (i : ℕ) → i < in_all counts → get_or (plan_of rec counts alarms states time).events i 0 < 2 ^ word_bits
  unfolding step_part
  word_small i h =
      rw (word_at i h) (entry-word (entry_at (form_at counts i) rec (offset_of counts i) (i + 1)) (get_or alarms i blank) (get_or states i fresh_state) time)

-- ---- the events of all alarms

module _ (alarms : List Alarm) (states : List State) (events : List ℕ) (time : ℕ) where
  -- as many events as bits
  pub up-to-count : (n : ℕ) → ((i : ℕ) → i < n → get_or events i 0 < 2 ^ word_bits) → length (events_up_to alarms states events time n) ≡ count_of events n
  unfolding events_up_to count_of
  up-to-count zero h = refl
  up-to-count (suc n) h =
      omega (
        arith,
        length-append (events_up_to alarms states events time n)
            (alarm_events (suc n) (get_or alarms n blank) (get_or states n fresh_state) (get_or events n 0) time),
        up-to-count n (λ i l. h i (omega arith)),
        events-ones (suc n) (get_or alarms n blank).kind (bit (get_or states n fresh_state).flags 1) time word_bits 0 (get_or events n 0) (h n (omega arith)),
      )
