-- `wire::real::to_pattern` meets its contract: a NaN alone differs from itself. Assumes nothing.
use mathlib.Core.Path.{sym, ap}
use lib.Ieee.{binary32, to_bits}
use Rattle.wire.proofs.Reals.{equals_itself, differs}
use Rattle.wire.proofs.real.to_pattern.Goals as goal

pub float_to_bits-result : goal.float_to_bits-result
float_to_bits-result c = equals_itself _ c.if-x.true

pub returns-else-x : goal.returns-else-x
unfolding to_bits
returns-else-x c = sym (ap (to_bits binary32) (differs _ c.if-x.false))
