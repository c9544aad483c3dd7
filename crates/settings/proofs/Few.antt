-- What the test of counts says. Assumes nothing.
use mathlib.Core.Path.{◌≡◌}
use borrow.Author.Tests.{le-leb}
use mathlib.Core.Bool.{Bool, true}
use Rattle.wire.proofs.Laws.{most-true}
use Rattle.settings.specs.Counts.{each_most, are_good}
use Rattle.settings.specs.Internal.Few.{Few}
use Rattle.settings.specs.declared.counts.Counts.{Counts}

pub few : (counts : Counts) {r : Bool} → r ≡ are_good counts → r ≡ true → Few counts
few counts e h = let most = most-true counts.digital counts.analog each_most each_most e h in record { digital = most.0; analog = most.1 }

pub good : (counts : Counts) → Few counts → are_good counts ≡ true
good counts f = rw (le-leb counts.digital each_most f.digital, le-leb counts.analog each_most f.analog)
