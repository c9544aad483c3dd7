-- `wire::real::is_bounded` meets its contract: the code's constant is the bound. Assumes nothing.
use mathlib.Core.Path.{refl}
use Rattle.wire.specs.Real.{bounded, largest}
use Rattle.wire.proofs.real.is_bounded.Goals as goal

pub returns : goal.returns
unfolding bounded largest
returns c = refl
