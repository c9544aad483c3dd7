-- `scan_record::entry::is_command` meets its contract: what a mask leaves of a word. Assumes nothing.
use native.Mathlib.Omega.{arith}
use Rattle.wire.proofs.Masks.{mask-says}
use Rattle.scan_record.specs.Entry.{bits_of}
use Rattle.scan_record.proofs.entry.is_command.Goals as goal

pub returns : goal.returns
returns c =
    let a = c.args in
    rw c.command_bits.ensures (mask-says (bits_of a.form) 32 a.word (omega arith))
