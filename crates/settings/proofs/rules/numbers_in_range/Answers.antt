-- `settings::rules::numbers_in_range` meets its contract: the REALs, the period and the duration, joined. Assumes nothing.
use Rattle.settings.specs.Rules.{in_range}
use Rattle.settings.proofs.rules.numbers_in_range.Goals as goal

pub returns : goal.returns
unfolding in_range
returns c = cc
