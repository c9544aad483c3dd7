-- `reader::section::records` meets its contract. Assumes nothing.
use mathlib.Core.Path.{◌≡◌, sym, ap, ◌∙◌}
use Prim.Native.Nat.{ℕ, ◌-◌}
use native.Mathlib.Omega.{arith}
use Rattle.std.proofs.lemmas.Result.{err_from_is_err_and}
use Rattle.reader.specs.Section.{records_from}
use Rattle.reader.specs.Internal.Alarms.{span_of, records_alarms}
use Rattle.reader.proofs.Sections.{records-next, records-stop, records-end}
use Rattle.reader.proofs.Alarms.{alarms-next, alarms-stop, alarms-end}
use Rattle.reader.proofs.section.records.Goals as goal

pub returns-in_err-alarm : goal.returns-in_err-alarm
returns-in_err-alarm c =
    let a = c.args in
    let l = c.loop-place in
    let found = sym c.record_at.ensures ∙ c.in_err-alarm.was in
    let p = err_from_is_err_and c.from_residual.result c.from_residual.ensures.1 in
    let stop = records-stop a.form a.image.now (a.end - a.first) l.next l.alarms c.loop-place-test.true found in
    record {
      value = rw (p.1, p.2) (ap span_of (sym stop ∙ l.invariant.answer));
      alarms_after = sym (alarms-stop a.form a.image.now l.next l.alarms c.loop-place-test.true found) ∙ l.invariant.filled;
    }

pub loop-place-preserved : goal.loop-place-preserved
loop-place-preserved c =
    let a = c.args in
    let l = c.loop-place in
    let found = sym c.record_at.ensures ∙ c.in_ok-alarm.was in
    record {
      answer = sym (records-next a.form a.image.now (a.end - a.first) l.next l.alarms c.loop-place-test.true found) ∙ l.invariant.answer;
      filled = sym (alarms-next a.form a.image.now l.next l.alarms c.loop-place-test.true found) ∙ l.invariant.filled;
    }

pub returns : goal.returns
returns c =
    let a = c.args in
    let l = c.loop-place in
    let n = a.end - a.first in
    let end : l.place ≡ a.end = omega arith in
    record {
      value =
          ap span_of
          (sym (records-end a.form a.image.now n l.place l.next l.alarms)
          ∙ ap (λ (k : ℕ). records_from a.form a.image.now n (k - l.place) l.place l.next l.alarms) end
          ∙ l.invariant.answer);
      alarms_after =
          sym (alarms-end a.form a.image.now l.place l.next l.alarms)
          ∙ ap (λ (k : ℕ). records_alarms a.form a.image.now (k - l.place) l.place l.next l.alarms) end
          ∙ l.invariant.filled;
    }
