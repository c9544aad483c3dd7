-- `level::rate::period_real` meets its contract: up to 2 ^ 24 the cast loses nothing, and the code's constant is 2 ^ 24. Assumes nothing.
use mathlib.Core.Path.{◌≡◌}
use Prim.Native.Nat.{min}
use native.Mathlib.Omega.{arith}
use lib.Ieee.{of_bits, of_int}
use Rattle.level.proofs.rate.period_real.Goals as goal

pub returns-else-period-le16777216 : goal.returns-else-period-le16777216
unfolding of_bits of_int
returns-else-period-le16777216 c =
    let p = c.args.period in
    let e : min p 16777216 ≡ 16777216 = omega arith in
    rw e
