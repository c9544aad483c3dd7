-- `analog::finish::ready_in` meets its contract. Assumes nothing.
use Rattle.analog.specs.Internal.Packed.{ready_bits}
use Rattle.analog.proofs.finish.ready_in.Goals as goal

pub returns : goal.returns
unfolding ready_bits
returns c = (cc, c.spread_of.ensures.1)
