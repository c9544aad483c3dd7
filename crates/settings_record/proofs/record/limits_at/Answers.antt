-- `settings_record::record::limits_at` meets its contract: seven REALs. Assumes nothing.
use Rattle.settings_record.specs.Record.{limits_at}
use Rattle.settings_record.proofs.record.limits_at.Goals as goal

pub returns : goal.returns
unfolding limits_at
returns c = cc
