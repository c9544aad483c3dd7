-- `scan_record::entry::is_bounded_pattern` meets its contract: patterns stand in the order of magnitudes. Assumes nothing.
use mathlib.Core.Path.{sym}
use Rattle.scan_record.proofs.Patterns.{pattern-bounded}
use Rattle.scan_record.proofs.entry.is_bounded_pattern.Goals as goal

pub returns : goal.returns
returns c = sym (pattern-bounded c.args.pattern)
