-- `wire::real::from_pattern` meets its contract: a pattern whose part below the sign is at most an infinity's is no NaN's,
-- and any other is, as 0 / 0 is. Assumes nothing.
use borrow.Author.Tests.{le-ltb, lt-ltb}
use mathlib.Core.Path.{sym, ◌∙◌}
use lib.Ieee.{binary32, div, of_bits}
use lib.Ieee.Bits.{nan_bits_is, nan_bits_above}
use Rattle.wire.proofs.Reals.{nan-only}
use Rattle.wire.proofs.real.from_pattern.Goals as goal

pub float_from_bits-result : goal.float_from_bits-result
float_from_bits-result c = rw (nan_bits_above, le-ltb _ _ c.if-bits-le-INFINITY.true) tt

pub returns-else-bits-le-INFINITY : goal.returns-else-bits-le-INFINITY
unfolding div of_bits
returns-else-bits-le-INFINITY c =
    let bits = c.args.bits in
    sym (nan-only _ (sym (nan_bits_is binary32 bits) ∙ nan_bits_above binary32 bits ∙ lt-ltb _ _ c.if-bits-le-INFINITY.false))
