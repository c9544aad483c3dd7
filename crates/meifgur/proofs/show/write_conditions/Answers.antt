-- The lines of one more alarm are written.
use mathlib.Core.Path.{sym, ap, ◌∙◌}
use mathlib.Core.List.{List, ◌++◌, append_assoc}
use Prim.Native.Nat.{ℕ}
use native.Mathlib.Omega.{arith}
use Rattle.std.proofs.KnownBytes.{Appends-trans}
use Rattle.bank_text.specs.Internal.Owned.{words_of}
use Rattle.meifgur.specs.Internal.Show.{alarm_lines}
use Rattle.meifgur.proofs.Lines.{alarms-next}
use Rattle.meifgur.proofs.show.write_conditions.Goals as goal

pub loop-alarm-preserved : goal.loop-alarm-preserved
loop-alarm-preserved g c =
    let now = c.loop-alarm in
    let line = alarm_lines (words_of c.args.bank.now) in
    let next = alarms-next line now.alarm c.alarms-alarm-end.result (omega (arith, c.loop-alarm-test.true)) in
    let done = now.invariant.0 in (
      done ++ line now.alarm,
      Appends-trans _ _ _ done (line now.alarm) now.invariant.1 c.in_ok-write_alarm.ensures,
      rw append_assoc (sym (ap (λ (text : List ℕ). done ++ text) next) ∙ now.invariant.2),
    )
