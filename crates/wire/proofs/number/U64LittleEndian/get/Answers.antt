-- `get` of `u64` meets the trait's contract: std makes the same number of the bytes. Assumes nothing.
use mathlib.Core.Path.{◌∙◌}
use Rattle.wire.proofs.Laws.{number-read}
use Rattle.wire.proofs.number.U64LittleEndian.get.Goals as goal

pub returns : goal.returns
returns c = c.from_le_bytes.ensures ∙ rw c.bytes_at.ensures (number-read c.args.s.now c.args.at 7 c.requires)
