-- `scan_record::check::record_length` meets its contract: each arm has the length of its counts. Assumes nothing.
use borrow.Author.Rules.{rules}
use mathlib.Core.Path.{ap, ◌∙◌}
use Rattle.scan_record.specs.Part.{record_size}
use Rattle.scan_record.specs.Internal.Size.{length_of}
use Rattle.scan_record.proofs.check.record_length.Goals as goal

pub returns-in-Some : goal.returns-in-Some
unfolding length_of
returns-in-Some c =
    let good = c.in-Some.ensures in
    (rw good.0 (c.length_of.ensures ∙ ap record_size good.1), search rules)

pub returns-in-None : goal.returns-in-None
unfolding length_of
returns-in-None c = (simp c.in-None.ensures, search rules)
