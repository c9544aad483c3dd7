-- `settings::rules::levels_apart` meets its contract: both rules, joined. Assumes nothing.
use Rattle.settings.specs.Rules.{apart}
use Rattle.settings.proofs.rules.levels_apart.Goals as goal

pub returns : goal.returns
unfolding apart
returns c = cc
