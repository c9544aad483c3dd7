-- `level::level::met_word` meets its contract: the comparisons, packed. Assumes nothing.
use mathlib.Core.Bool.{and-false}
use Rattle.level.specs.Level.{met}
use Rattle.level.specs.Internal.Bits.{met_bits}
use Rattle.level.proofs.level.met_word.Goals as goal

pub returns-in-Digital : goal.returns-in-Digital
unfolding met_bits met
returns-in-Digital c = rw c.in-Digital.is (simp and-false c.spread_of.ensures)

pub returns-in-Level : goal.returns-in-Level
unfolding met_bits met
returns-in-Level c = rw c.in-Level.is (cc, c.spread_of-in-Level.ensures.1)
