-- `put` of `u64` meets the trait's contract: std makes the same bytes of the number. Assumes nothing.
use mathlib.Core.Path.{ap, ◌∙◌}
use lib.Seq.{sets}
use Rattle.wire.proofs.Laws.{bytes-low}
use Rattle.wire.proofs.number.U64LittleEndian.put.Goals as goal

pub returns : goal.returns
returns c = c.put_bytes.ensures ∙ ap (sets c.args.s.now c.args.at) (c.to_le_bytes.ensures ∙ bytes-low 8 c.args.self)
