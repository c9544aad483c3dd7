-- `level::rate::new_rate` meets its contract: by the period, as a REAL. Assumes nothing.
use borrow.Author.Tests.{ne_eqb}
use Rattle.settings.specs.Numbers.{new_rate}
use Rattle.level.proofs.rate.new_rate.Goals as goal

pub returns-then-period-eq0 : goal.returns-then-period-eq0
unfolding new_rate
returns-then-period-eq0 c = simp c.if-period-eq0.true

pub returns : goal.returns
unfolding new_rate
returns c = simp (ne_eqb _ _ c.if-period-eq0.false, c.period_real.ensures)
