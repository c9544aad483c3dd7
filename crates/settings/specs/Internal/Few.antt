-- Counts that a bank may have.
use Rattle.std.specs.Prelude.{◌≤◌}
use Rattle.settings.specs.Counts.{each_most}
use Rattle.settings.specs.declared.counts.Counts.{Counts}

pub record Few (counts : Counts) : Type 0 where
  pub digital : counts.digital ≤ each_most
  pub analog : counts.analog ≤ each_most
