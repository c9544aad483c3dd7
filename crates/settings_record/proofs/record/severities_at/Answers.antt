-- `settings_record::record::severities_at` meets its contract: six words. Assumes nothing.
use Rattle.settings_record.specs.Record.{severities_at}
use Rattle.settings_record.proofs.record.severities_at.Goals as goal

pub returns : goal.returns
unfolding severities_at
returns c = cc
