-- `settings_record::record::analog_record` meets its contract: each return takes the case that its tests led to. Assumes nothing.
use Rattle.settings_record.specs.Record.{fields_at}
use Rattle.settings.specs.Refusals.{checked}
use borrow.Author.Tests.{le-ltb, lt-ltb}
use Rattle.settings_record.proofs.record.analog_record.Goals as goal

pub returns-then-flags-ge-ANALOG_FLAGS : goal.returns-then-flags-ge-ANALOG_FLAGS
unfolding checked fields_at
returns-then-flags-ge-ANALOG_FLAGS c = rw c.at.ensures (simp (le-ltb _ _ c.if-flags-ge-ANALOG_FLAGS.true))

pub returns-then-not-numbers_in_range : goal.returns-then-not-numbers_in_range
unfolding checked fields_at
returns-then-not-numbers_in_range c =
    rw c.at-then-not-numbers_in_range.ensures (simp (
      lt-ltb _ _ c.if-flags-ge-ANALOG_FLAGS.false,
      ← c.numbers_in_range.ensures,
      ← c.get-duration.ensures,
      ← c.get-period.ensures,
      ← c.limits_at-limits.ensures,
      c.if-not-numbers_in_range.true,
    ))

pub returns-then-not-levels_apart : goal.returns-then-not-levels_apart
unfolding checked fields_at
returns-then-not-levels_apart c =
    rw c.at-then-not-levels_apart.ensures (simp (
      lt-ltb _ _ c.if-flags-ge-ANALOG_FLAGS.false,
      ← c.numbers_in_range.ensures,
      ← c.get-duration.ensures,
      ← c.get-period.ensures,
      ← c.limits_at-limits.ensures,
      ← c.levels_apart.ensures,
      c.if-not-numbers_in_range.false,
      c.if-not-levels_apart.true,
    ))

pub returns : goal.returns
unfolding checked fields_at
returns c =
    simp (
      lt-ltb _ _ c.if-flags-ge-ANALOG_FLAGS.false,
      ← c.numbers_in_range.ensures,
      ← c.get-duration.ensures,
      ← c.get-period.ensures,
      ← c.limits_at-limits.ensures,
      ← c.severities_at-severities.ensures,
      ← c.levels_apart.ensures,
      c.if-not-numbers_in_range.false,
      c.if-not-levels_apart.false,
    )
