-- `settings::rules::sides_apart` meets its contract: the limits that the flags choose, and the two inequalities. Assumes nothing.
use Rattle.std.proofs.Common.{Some, None}
use Rattle.settings.proofs.Levels.{bands}
use Rattle.settings.proofs.rules.sides_apart.Goals as goal

pub returns-in_default : goal.returns-in_default
returns-in_default c = bands c.args.flags c.args.g None cc

pub returns : goal.returns
returns c = bands c.args.flags c.args.g (Some (c.in-Some.high, c.in-Some.low)) cc
