-- `event::write::head_at` meets its contract: a bit of the whole alarm, or one of a condition. Assumes nothing.
use Rattle.event.proofs.Heads.{whole-bit, condition-bit}
use Rattle.event.proofs.write.head_at.Goals as goal

pub returns-then-bit-lt-WHOLE_BITS : goal.returns-then-bit-lt-WHOLE_BITS
returns-then-bit-lt-WHOLE_BITS c = whole-bit c.args.source.now c.args.bit c.if-bit-lt-WHOLE_BITS.true c.from.ensures c.head.ensures.value

pub returns : goal.returns
returns c =
    let h = c.head-2.ensures in
    let t = c.slot_at-slot.ensures in
    condition-bit c.args.source.now c.args.bit c.if-bit-lt-WHOLE_BITS.false c.requires c.from-2.ensures h.value h.upper_bound.1 t.condition
    c.acting_severity-severity.ensures t.severity
