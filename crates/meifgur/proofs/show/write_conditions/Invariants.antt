-- The lines that are written, and those of the alarms that are left, are all lines.
use Rattle.std.specs.Prelude.{◌≡◌, ℕ, ◌+◌, ◌-◌, List, ◌++◌, flat_map}
use Rattle.std.specs.List.{range_with_len}
use Rattle.std.specs.Io.KnownBytes.{Appends}
use Rattle.bank_text.specs.Internal.Owned.{words_of}
use Rattle.meifgur.specs.Internal.Show.{alarm_lines}
use Rattle.meifgur.proofs.show.write_conditions.Given as goal

abbrev pub invariant-loop-alarm : goal.invariant-loop-alarm
invariant-loop-alarm g l =
    let line = alarm_lines (words_of l.bank) in
    (done : List ℕ)
    × Appends (g.W.Write.contents l.initial.output) (g.W.Write.contents l.output) done
    × (done ++ flat_map line (range_with_len l.alarm (l.alarm-end + 1 - l.alarm))
    ≡ flat_map line (range_with_len l.initial.alarm (l.initial.alarm-end + 1 - l.initial.alarm)))
