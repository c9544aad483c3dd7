-- `sweep::place::log_place` meets its contract: without events nothing is written. Assumes nothing.
use mathlib.Core.Path.{◌≡◌, sym, ap, ◌∙◌}
use mathlib.Core.List.{List, []}
use Prim.Native.Nat.{ℕ, ◌+◌}
use native.Mathlib.Nat.{add-zero}
use lib.ListN.{length}
use lib.Seq.{sets}
use Rattle.wire.specs.Bits.{bit}
use Rattle.wire.specs.Internal.Places.{word_bits}
use Rattle.layout.specs.Internal.Words.{alarm_in}
use Rattle.layout.specs.Internal.Block.{alarm_at, state_at}
use Rattle.event.specs.Event.{log_bytes}
use Rattle.state.specs.Internal.State.{state_in}
use Rattle.event.specs.Internal.Bits.{events_of}
use Rattle.event.proofs.Logs.{no-events}
use Rattle.sweep.specs.Internal.Sweep.{state_log}
use Rattle.sweep.proofs.Stepped.{log-same}
use Rattle.sweep.proofs.place.log_place.Goals as goal

pub returns-then-events-eq0 : goal.returns-then-events-eq0
unfolding state_log log_bytes
returns-then-events-eq0 c =
    let a = c.args in
    let s = a.scan.now in
    let p = a.part.place.index in
    let alarm = alarm_in a.part.form s.settings.now (alarm_at p) in
    let state = state_in a.states.now (state_at p) in
    let none : events_of (p + 1) alarm.kind (bit state.flags 1) s.time word_bits 0 a.events ≡ [] =
    rw c.if-events-eq0.true (no-events (p + 1) alarm.kind (bit state.flags 1) s.time word_bits 0) in
    let e = ap log_bytes none in
    record {
      value = sym (ap (λ (bs : List ℕ). a.used + length bs) e ∙ add-zero a.used);
      out_after = sym (ap (sets a.out.now a.used) e);
    }

pub put_events-requires : goal.put_events-requires
put_events-requires c =
    let a = c.args in
    let suppressed = c.is_set.ensures ∙ ap (λ (f : ℕ). bit f 1) c.lower-flags.ensures in
    rw (log-same a.scan.now a.part a.states.now c.settings_in.ensures c.state_in.ensures a.events c.number.ensures suppressed) c.requires

pub returns : goal.returns
returns c =
    let a = c.args in
    let p = c.put_events.ensures in
    let suppressed = c.is_set.ensures ∙ ap (λ (f : ℕ). bit f 1) c.lower-flags.ensures in
    let log = log-same a.scan.now a.part a.states.now c.settings_in.ensures c.state_in.ensures a.events c.number.ensures suppressed in
    record {
      value = p.value ∙ ap (λ (bs : List ℕ). a.used + length bs) log;
      out_after = p.out_after ∙ ap (sets a.out.now a.used) log;
    }
