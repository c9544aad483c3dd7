-- `settings_record::record::digital_record` meets its contract: each return takes the case that its tests led to. Assumes nothing.
use Rattle.settings_record.specs.Record.{fields_at}
use Rattle.settings.specs.Refusals.{checked}
use borrow.Author.Tests.{le-ltb, lt-ltb, le-leb, lt-leb}
use Rattle.settings_record.proofs.record.digital_record.Goals as goal

pub returns-then-flags-ge-DIGITAL_FLAGS : goal.returns-then-flags-ge-DIGITAL_FLAGS
unfolding checked fields_at
returns-then-flags-ge-DIGITAL_FLAGS c = rw c.at.ensures (simp (le-ltb _ _ c.if-flags-ge-DIGITAL_FLAGS.true))

pub returns-then-duration-gt-LONGEST_DURATION : goal.returns-then-duration-gt-LONGEST_DURATION
unfolding checked fields_at
returns-then-duration-gt-LONGEST_DURATION c =
    rw c.at-then-duration-gt-LONGEST_DURATION.ensures (simp (
      lt-ltb _ _ c.if-flags-ge-DIGITAL_FLAGS.false,
      ← c.get-duration.ensures,
      lt-leb _ _ c.if-duration-gt-LONGEST_DURATION.true,
    ))

pub returns : goal.returns
unfolding checked fields_at
returns c =
    simp (lt-ltb _ _ c.if-flags-ge-DIGITAL_FLAGS.false, ← c.get-duration.ensures, le-leb _ _ c.if-duration-gt-LONGEST_DURATION.false, ← c.get-severity.ensures)
