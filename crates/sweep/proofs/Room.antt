-- How many events the alarms of a bank can have in a scan, whatever its words are: 5 for a digital alarm, 15 for an analog one. Assumes nothing.
use mathlib.Core.Path.{◌≡◌, ap}
use mathlib.Core.List.{List}
use Prim.Native.Nat.{ℕ, zero, suc, ◌+◌, ◌*◌, ◌≤◌}
use native.Mathlib.Nat.{mul-suc}
use native.Mathlib.Numerals.{add-one}
use native.Mathlib.Omega.{arith}
use lib.ListN.{length}
use Rattle.settings.specs.Internal.Reals.{real_analog}
use Rattle.wire.specs.Bits.{bit}
use Rattle.settings.specs.Counts.{in_all, form_at}
use Rattle.settings.specs.declared.counts.Counts.{Counts}
use Rattle.settings.specs.Numbers.{reals}
use Rattle.settings.specs.declared.types.Alarm.{Alarm}
use Rattle.settings.specs.declared.types.Form.{Form}
use Rattle.settings.specs.declared.types.Form.TheVariants.{Digital, Analog}
use Rattle.layout.specs.Internal.Words.{alarm_in}
use Rattle.layout.specs.Internal.Block.{alarm_at, counts_in, count_in, state_at}
use Rattle.scan_record.specs.Part.{time_of, reading_at, word_at}
use Rattle.event.proofs.Logs.{log-length, events-number}
use Rattle.state.specs.Internal.Held.{look_digital, real_patterns, look_analog}
use Rattle.digital.specs.Internal.Digital.{digital_events}
use Rattle.analog.specs.Internal.Analog.{analog_events}
use Rattle.state.specs.Internal.State.{State, state_in}
use Rattle.sweep.specs.Internal.Step.{step_kind}
use Rattle.digital.proofs.Laws.{digital-most}
use Rattle.analog.proofs.Laws.{analog-most}
use Rattle.bank.specs.Lent.{Words}
use Rattle.sweep.specs.Internal.Sweep.{alarm_events, place_step, part_at, events_on, step_on, HaveForm, Ready, most_events, most_bytes, log_from}
use Rattle.sweep.specs.Internal.Sweep.{log_after}
use Rattle.sweep.proofs.Stepped.{digital-log, analog-log}
use Rattle.sweep.proofs.Loops.{log-none, length-next}
use Rattle.sweep.proofs.Halves.{digital-places, analog-places, half, length_whole}

module _ (settings states rec : List ℕ) (at p time : ℕ) where
  place-most : (form : Form)
      → length
      (alarm_events (p + 1) (alarm_in form settings (alarm_at p)) (place_step form settings states rec at p time).state
      (place_step form settings states rec at p time).events time)
      ≤ most_events form
  unfolding place_step step_kind alarm_in
  place-most Digital =
      let a : Alarm = alarm_in Digital settings (alarm_at p) in
      let s : State = state_in states (state_at p) in
      let after : State = (place_step Digital settings states rec at p time).state in
      let x = reading_at Digital rec at in
      let word = word_at Digital rec at in
      omega (
        arith,
        ap length (digital-log (p + 1) a s after x word time),
        events-number (p + 1) a.kind (bit after.flags 1) time 0 (digital_events a x word time (look_digital s)),
        digital-most a x word time (look_digital s),
      )
  place-most Analog =
      let a : Alarm = alarm_in Analog settings (alarm_at p) in
      let s : State = state_in states (state_at p) in
      let after : State = (place_step Analog settings states rec at p time).state in
      let x = reading_at Analog rec at in
      let word = word_at Analog rec at in
      omega (
        arith,
        ap length (analog-log (p + 1) a s after x word time),
        events-number (p + 1) a.kind (bit after.flags 1) time 0 (analog_events reals (real_analog a) x word time (look_analog real_patterns s)),
        analog-most reals (real_analog a) x word time (look_analog real_patterns s),
      )

module _ (w : Words) (rec : List ℕ) where
  events-most : (p : ℕ) → length (events_on w rec p) ≤ most_events (form_at (counts_in w.settings) p)
  unfolding events_on step_on
  events-most p = place-most w.settings w.states rec (part_at w rec p) p (time_of rec) (form_at (counts_in w.settings) p)

  form-most : (first n : ℕ) (form : Form) → HaveForm (counts_in w.settings) first n form → length (log_from w rec first n) ≤ 16 * (most_events form * n)
  form-most first zero form h = omega (arith, ap length (log-none w rec first))
  form-most first (suc n) form h =
      let f = h (first + n) (omega arith) (omega arith) in
      let m : length (events_on w rec (first + n)) ≤ most_events form = rw f at (events-most (first + n)) in
      let e : suc n ≡ n + 1 = omega arith in
      let k : most_events form * (n + 1) ≡ most_events form * n + most_events form = rw (add-one n) (mul-suc (most_events form) n) in
      rw e (omega (arith, length-next w rec first n, log-length (events_on w rec (first + n)), form-most first n form (λ p l q. h p l (omega arith)), m, k))

pub room_most : (w : Words) (rec : List ℕ) (counts : Counts) → counts ≡ counts_in w.settings → length (log_from w rec 0 (in_all counts)) ≤ most_bytes counts
room_most w rec counts e =
    let d : counts.digital ≡ (counts_in w.settings).digital = ap (λ (k : Counts). k.digital) e in
    let first = form-most w rec 0 counts.digital Digital (rw (← d) (digital-places counts)) in
    let second = form-most (half w rec counts.digital) rec counts.digital counts.analog Analog (rw (← d) (analog-places counts)) in
    omega (arith, first, second, length_whole w rec counts.digital counts.analog)

-- of all alarms
pub room_after : (w : Words) (rec : List ℕ) {counts : Counts} → Ready w rec counts → length (log_after w rec) ≤ most_bytes counts
room_after w rec {counts} r =
    let n : in_all counts ≡ count_in w.settings = ap in_all r.counts-are in
    rw (← n) (room_most w rec counts r.counts-are)
