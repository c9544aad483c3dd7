-- `scan_record::entry::analog_entry` meets its contract: each return takes the case that its tests led to. Assumes nothing.
use Rattle.settings.specs.Refusals.{checked}
use Rattle.scan_record.specs.Entry.{entry_at}
use Rattle.scan_record.proofs.entry.analog_entry.Goals as goal

pub returns-then-not-is_bounded_pattern : goal.returns-then-not-is_bounded_pattern
unfolding entry_at checked
returns-then-not-is_bounded_pattern c =
    rw c.at.ensures (simp (← c.get-pattern.ensures, ← c.is_bounded_pattern.ensures, c.if-not-is_bounded_pattern.true))

pub returns-then-not-is_command : goal.returns-then-not-is_command
unfolding entry_at checked
returns-then-not-is_command c =
    rw c.at-then-not-is_command.ensures (simp (
      ← c.get-pattern.ensures,
      ← c.is_bounded_pattern.ensures,
      c.if-not-is_bounded_pattern.false,
      ← c.get-word.ensures,
      ← c.is_command.ensures,
      c.if-not-is_command.true,
    ))

pub returns : goal.returns
unfolding entry_at checked
returns c =
    simp (
      c.from_pattern.ensures,
      ← c.get-pattern.ensures,
      ← c.is_bounded_pattern.ensures,
      c.if-not-is_bounded_pattern.false,
      ← c.get-word.ensures,
      ← c.is_command.ensures,
      c.if-not-is_command.false,
    )
