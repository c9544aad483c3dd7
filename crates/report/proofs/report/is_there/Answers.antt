-- `report::report::is_there` meets its contract: each arm takes the case of its counts. Assumes nothing.
use Rattle.report.specs.Internal.Report.{is_there}
use Rattle.report.proofs.report.is_there.Goals as goal

pub returns-in-Some : goal.returns-in-Some
unfolding is_there
returns-in-Some c =
    let good = c.in-Some.ensures in
    simp (good.0, c.in_all.ensures, good.1)

pub returns-in-None : goal.returns-in-None
unfolding is_there
returns-in-None c = simp c.in-None.ensures
