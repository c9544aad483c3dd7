-- `scan_record::entry::command_bits` meets its contract: each mask has its form's bits. Assumes nothing.
use Rattle.wire.specs.Bits.{is_one_of}
use Rattle.wire.specs.Internal.Words.{mask_of}
use Rattle.scan_record.proofs.entry.command_bits.Goals as goal

pub returns-in-Digital : goal.returns-in-Digital
unfolding mask_of is_one_of
returns-in-Digital c = rw c.in-Digital.is

pub returns-in-Analog : goal.returns-in-Analog
unfolding mask_of is_one_of
returns-in-Analog c = rw c.in-Analog.is
