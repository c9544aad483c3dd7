-- `wire::number::put_bytes` meets its contract: a part that is copied over is a run of stores. Assumes nothing.
use Rattle.wire.proofs.number.put_bytes.Goals as goal
use native.Mathlib.Omega.{arith}
use Rattle.std.proofs.lemmas.Grind.{common_steps}
use lib.Seq.{sets-eq}

pub returns : goal.returns
returns g c = grind (arith, common_steps, sets-eq c.args.bytes c.args.s.now c.args.at)
