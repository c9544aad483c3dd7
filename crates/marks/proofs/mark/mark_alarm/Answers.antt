-- `marks::mark::mark_alarm` meets its contract: the count reset stamp, and then the conditions. Assumes nothing.
use mathlib.Core.Path.{◌∙◌}
use Rattle.marks.specs.Internal.Marks.{mark_alarm}
use Rattle.marks.proofs.mark.mark_alarm.Goals as goal

pub returns : goal.returns
unfolding mark_alarm
returns c = c.mark_conditions.ensures ∙ rw (c.choose.ensures, c.is_set-reset.ensures)
