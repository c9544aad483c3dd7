-- `event::write::put_events` meets its contract: the invariant: writing the bits that are left gives what writing all gives, and room is left
-- for them. Assumes nothing.
use mathlib.Core.Path.{refl, sym, ap, ◌∙◌}
use Prim.Native.Nat.{◌+◌, ◌-◌, ◌<◌}
use native.Mathlib.Omega.{arith}
use lib.Bits.{and_le_r}
use lib.ListN.{length}
use lib.Seq.{sets}
use Rattle.wire.specs.Internal.Places.{word_bits}
use Rattle.event.proofs.Lowest.{few-zeros, low-log, no-log, length-first, sets-first}
use Rattle.event.proofs.write.put_events.Goals as goal

pub loop-rest-init : goal.loop-rest-init
loop-rest-init c =
    let e = low-log c.args.source.now c.args.events in
    record {
      same_length = refl;
      bits = omega arith;
      room = ap (λ l. c.args.start + length l) e;
      left = ap (sets c.args.out.now c.args.start) e;
    }

pub put_event-requires : goal.put_event-requires
put_event-requires c =
    let l = c.loop-rest in
    let some : 0 < l.rest = omega arith in
    (few-zeros 32 word_bits l.rest (omega arith) some l.invariant.bits, omega (arith, length-first c.args.source.now l.rest some l.invariant.bits))

pub loop-rest-preserved : goal.loop-rest-preserved
loop-rest-preserved c =
    let s = c.args.source.now in
    let l = c.loop-rest in
    let some : 0 < l.rest = omega arith in
    record {
      same_length = c.put_event.auto.out ∙ l.invariant.same_length;
      bits = omega (arith, and_le_r l.rest (l.rest - 1));
      room = omega (arith, length-first s l.rest some l.invariant.bits);
      left = rw c.put_event.ensures (sets-first s l.rest some l.invariant.bits l.out l.at ∙ l.invariant.left);
    }

pub returns : goal.returns
returns c =
    let l = c.loop-rest in
    let e = no-log c.args.source.now l.rest (omega arith) in
    record {
      value = omega (arith, ap length e);
      out_after = sym (ap (sets l.out l.at) e) ∙ l.invariant.left;
    }
