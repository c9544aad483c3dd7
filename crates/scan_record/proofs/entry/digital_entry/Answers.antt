-- `scan_record::entry::digital_entry` meets its contract: each return takes the case that its tests led to. Assumes nothing.
use Rattle.settings.specs.Refusals.{checked}
use Rattle.scan_record.specs.Entry.{entry_at}
use borrow.Author.Tests.{le-leb, lt-leb}
use Rattle.scan_record.proofs.entry.digital_entry.Goals as goal

pub returns-then-input-gt-HIGHEST_INPUT : goal.returns-then-input-gt-HIGHEST_INPUT
unfolding entry_at checked
returns-then-input-gt-HIGHEST_INPUT c = rw c.at.ensures (simp (lt-leb _ _ c.if-input-gt-HIGHEST_INPUT.true))

pub returns-then-not-is_command : goal.returns-then-not-is_command
unfolding entry_at checked
returns-then-not-is_command c =
    rw c.at-then-not-is_command.ensures (simp (
      le-leb _ _ c.if-input-gt-HIGHEST_INPUT.false,
      ← c.get-word.ensures,
      ← c.is_command.ensures,
      c.if-not-is_command.true,
    ))

pub returns : goal.returns
unfolding entry_at checked
returns c =
    simp (
      le-leb _ _ c.if-input-gt-HIGHEST_INPUT.false,
      ← c.get-word.ensures,
      ← c.is_command.ensures,
      c.if-not-is_command.false,
    )
