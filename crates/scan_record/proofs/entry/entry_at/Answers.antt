-- `scan_record::entry::entry_at` meets its contract: by the form. Assumes nothing.
use Rattle.scan_record.proofs.entry.entry_at.Goals as goal

pub digital_entry-requires : goal.digital_entry-requires
digital_entry-requires c = rw c.in-Digital.is at c.requires

pub analog_entry-requires : goal.analog_entry-requires
analog_entry-requires c = rw c.in-Analog.is at c.requires

pub returns-in-Digital : goal.returns-in-Digital
returns-in-Digital c = rw c.in-Digital.is c.digital_entry.ensures

pub returns-in-Analog : goal.returns-in-Analog
returns-in-Analog c = rw c.in-Analog.is c.analog_entry.ensures
