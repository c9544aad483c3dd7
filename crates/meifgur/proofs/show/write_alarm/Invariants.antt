-- The lines that are written, and those of the conditions that are left, are all lines.
use Rattle.std.specs.Prelude.{◌≡◌, ℕ, List, ◌++◌}
use Rattle.std.specs.Io.KnownBytes.{Appends}
use Rattle.meifgur.specs.Internal.Show.{lines_from}
use Rattle.meifgur.proofs.show.write_alarm.Given as goal

abbrev pub invariant-loop-condition : goal.invariant-loop-condition
invariant-loop-condition g l =
    (done : List ℕ)
    × Appends (g.W.Write.contents l.initial.output) (g.W.Write.contents l.output) done
    × (done ++ lines_from l.alarm l.condition-iterator.a.start l.condition-iterator.a.end l.condition-iterator.b.rest.now
    ≡ lines_from l.initial.alarm l.initial.condition-iterator.a.start l.initial.condition-iterator.a.end l.initial.condition-iterator.b.rest.now)
    × (l.alarm ≡ l.initial.alarm)
