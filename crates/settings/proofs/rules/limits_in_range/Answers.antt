-- `settings::rules::limits_in_range` meets its contract: the tests of the seven REALs, joined. Assumes nothing.
use Rattle.settings.specs.Rules.{limits_in_range}
use Rattle.settings.proofs.rules.limits_in_range.Goals as goal

pub returns : goal.returns
unfolding limits_in_range
returns c = cc
