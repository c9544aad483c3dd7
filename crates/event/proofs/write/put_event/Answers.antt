-- `event::write::put_event` meets its contract: the head, then the time. Assumes nothing.
use mathlib.Core.Path.{sym, ap, ◌∙◌}
use lib.Seq.{sets}
use Rattle.event.proofs.Stores.{record-stores}
use Rattle.event.proofs.write.put_event.Goals as goal

pub returns : goal.returns
returns c =
    let a = c.args in
    record-stores a.out.now a.at c.head_at.result a.source.now.time c.put.ensures c.put-2.ensures ∙ ap (sets a.out.now a.at) (sym c.head_at.ensures)
