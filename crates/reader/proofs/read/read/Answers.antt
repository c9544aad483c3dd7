-- `reader::read::read` meets its contract: an image of no bytes is the factory bank. Assumes nothing.
use mathlib.Core.Path.{sym, ◌∙◌}
use Rattle.reader.proofs.Full.{read-none, read-some}
use Rattle.reader.proofs.read.read.Goals as goal

pub returns-in-empty : goal.returns-in-empty
returns-in-empty c = rw (c.factory.ensures, read-none _ c.in-empty.len_below)

pub returns-in_default : goal.returns-in_default
returns-in_default c = c.read_sections.ensures ∙ sym (read-some _ c.in_default.len_at_least)
