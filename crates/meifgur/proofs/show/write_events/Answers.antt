-- One more line is written; at the end they are of all records.
use mathlib.Core.Path.{ap, subst, ◌∙◌}
use Rattle.std.specs.Prelude.{flat_map}
use Rattle.std.specs.Io.KnownBytes.{Appends}
use Rattle.std.proofs.KnownBytes.{Appends-trans}
use Rattle.std.proofs.lemmas.List.{take_all}
use Rattle.meifgur.specs.Internal.Show.{event_line}
use Rattle.meifgur.proofs.Lines.{events-next}
use Rattle.meifgur.proofs.show.write_events.Goals as goal

pub loop-record-preserved : goal.loop-record-preserved
loop-record-preserved g c =
    let now = c.loop-record in
    let wrote = c.in_ok-writeln.ensures.bytes in
    let next = events-next event_line c.as_chunks.result.0.now now.record-index _ c.loop-record-test.true in
    subst (Appends (g.W.Write.contents c.args.output.now) (g.W.Write.contents c.writeln.new.self)) next (Appends-trans _ _ _ _ _ now.invariant wrote)

pub returns : goal.returns
returns g c =
    let now = c.loop-record in
    let whole = ap (flat_map event_line) (take_all now.record-index c.as_chunks.result.0.now c.loop-record-test.false ∙ c.as_chunks.ensures.front) in
    subst (Appends (g.W.Write.contents c.args.output.now) (g.W.Write.contents now.output)) whole now.invariant
