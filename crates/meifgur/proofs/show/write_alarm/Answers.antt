-- One more line is written, and one condition fewer is left; at the end none is.
use mathlib.Core.Path.{◌≡◌, refl, sym, ap, subst, ◌∙◌}
use mathlib.Core.List.{List, ◌++◌, append_assoc, append-nil}
use Prim.Native.Nat.{ℕ}
use Rattle.std.specs.Io.KnownBytes.{Appends}
use Rattle.bank_text.specs.Internal.Owned.{words_of}
use Rattle.std.proofs.KnownBytes.{Appends-trans}
use Rattle.meifgur.specs.Internal.Show.{condition_line, lines_from, alarm_lines}
use Rattle.meifgur.proofs.Lines.{conditions-next, conditions-end, alarm-lines}
use Rattle.meifgur.proofs.show.write_alarm.Goals as goal

pub loop-condition-preserved : goal.loop-condition-preserved
loop-condition-preserved g c =
    let now = c.loop-condition in
    let it = now.condition-iterator in
    let new = c.next.new.self in
    let alarm = c.args.alarm in
    let line = condition_line alarm c.in-Some.condition c.in-Some.status.now in
    let next = conditions-next alarm c.in-Some.condition it.a.start new.a.start it.a.end new.a.end c.in-Some.status.now
    it.b.rest.now new.b.rest.now c.in-Some.ensures.steps in
    let done = now.invariant.0 in
    let wrote = now.invariant.1 in
    let left = now.invariant.2 in (
      done ++ line,
      Appends-trans _ _ _ done line wrote c.in_ok-writeln.ensures.bytes,
      rw append_assoc (sym (ap (λ (text : List ℕ). done ++ text) next) ∙ left),
      refl,
    )

pub returns : goal.returns
returns g c =
    let now = c.loop-condition in
    let it = now.condition-iterator in
    let alarm = c.args.alarm in
    let first = c.into_iter-condition-iterator.result in
    let words = words_of c.args.bank.now in
    let none = conditions-end alarm it.a.start it.a.end it.b.rest.now (λ p. p.1.1.0) (λ p. p.1.0) c.in-None.ensures.steps in
    let given = c.into_iter-condition-iterator.ensures.into_iter_gives in
    let conditions : c.zip-condition-items.result.b.rest.now ≡ c.in-Ok.found.conditions = c.zip-condition-items.ensures.second.0 in
    let all : lines_from alarm first.a.start first.a.end first.b.rest.now ≡ alarm_lines words alarm =
    rw (given, c.zip-condition-items.ensures.first) (alarm-lines words alarm c.in-Ok.found c.form.result c.condition_numbers.result
    c.zip-condition-items.result.b.rest.now (sym c.report.ensures ∙ c.in-Ok.is) c.form.ensures c.condition_numbers.ensures conditions) in
    let done = now.invariant.0 in
    let whole : done ≡ alarm_lines words alarm = sym (append-nil done) ∙ sym (ap (λ (text : List ℕ). done ++ text) none) ∙ now.invariant.2 ∙ all in
    subst (Appends (g.W.Write.contents c.args.output.now) (g.W.Write.contents now.output)) whole now.invariant.1
