-- `scan_record::check::check_record` meets its contract: each return takes the case that its tests led to. Assumes nothing.
use borrow.Author.Tests.{le-ltb, lt-ltb}
use mathlib.Core.Path.{◌∙◌}
use native.Mathlib.Omega.{arith}
use Rattle.scan_record.specs.Check.{check_record}
use Rattle.scan_record.proofs.Entries.{whole_says}
use Rattle.scan_record.proofs.check.check_record.Goals as goal

pub returns-in_default : goal.returns-in_default
unfolding check_record
returns-in_default c = rw c.at.ensures (simp c.in_default.ensures)

pub get-requires : goal.get-requires
get-requires c =
    let whole = c.in-Some.ensures in
    omega (arith, (whole_says c.args.counts _ whole.0).size)

pub returns-then-get-last : goal.returns-then-get-last
unfolding check_record
returns-then-get-last c =
    let whole = c.in-Some.ensures in
    rw c.at-then-get-last.ensures (simp (whole.0, ← c.get.ensures, lt-ltb _ _ c.if-get-last.true))

pub check_alarms-requires : goal.check_alarms-requires
check_alarms-requires c =
    let whole = c.in-Some.ensures in
    rw whole.1 (whole_says c.args.counts _ whole.0).size

pub returns : goal.returns
unfolding check_record
returns c =
    let whole = c.in-Some.ensures in
    let time = c.get in
    rw whole.1 at c.check_alarms.ensures
    ∙ simp (whole.0, ← time.ensures, le-ltb _ _ c.if-get-last.false)
