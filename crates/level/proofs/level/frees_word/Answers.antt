-- `level::level::frees_word` meets its contract: the comparisons, packed. Assumes nothing.
use Rattle.level.specs.Level.{frees}
use Rattle.level.specs.Internal.Bits.{frees_bits}
use Rattle.level.proofs.level.frees_word.Goals as goal

pub returns-in-Digital : goal.returns-in-Digital
unfolding frees_bits frees
returns-in-Digital c = rw c.in-Digital.is c.spread_of.ensures

pub returns-in-Level : goal.returns-in-Level
unfolding frees_bits frees
returns-in-Level c = rw c.in-Level.is c.spread_of-in-Level.ensures
