-- `layout::read::alarm_in` meets its contract: its parts. Assumes nothing.
use Rattle.layout.specs.Internal.Words.{alarm_in}
use Rattle.layout.proofs.read.alarm_in.Goals as goal

pub returns : goal.returns
unfolding alarm_in
returns c = cc
