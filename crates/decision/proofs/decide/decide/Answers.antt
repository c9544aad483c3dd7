-- `decision::decide::decide` meets its contract: six outcomes at once, by masks. Assumes nothing.
use mathlib.Core.Path.{ap₂, ◌∙◌}
use Prim.Native.Nat.{ℕ}
use Rattle.decision.specs.Internal.Cells.{cells_of}
use Rattle.decision.proofs.Masks.{kept-fits, kept-is, events-fit, events-is}
use Rattle.decision.proofs.decide.decide.Goals as goal

pub threes-requires : goal.threes-requires
threes-requires c =
    let a = c.args in
    kept-fits a.flags a.met a.frees a.ready a.acks c.every-on.result c.every.result a.enabled a.required
    c.every-on.ensures c.every.ensures

pub threes-requires-2 : goal.threes-requires-2
threes-requires-2 c =
    let a = c.args in
    events-fit a.flags a.met a.frees a.ready a.acks c.every-on.result c.every.result a.enabled a.required
    c.every-on.ensures c.every.ensures

pub returns : goal.returns
unfolding cells_of
returns c =
    let a = c.args in
    let on = c.every-on in
    let need = c.every in
    let kept =
    kept-is a.flags a.met a.frees a.ready a.acks on.result need.result a.enabled a.required on.ensures need.ensures in
    let events =
    events-is a.flags a.met a.frees a.ready a.acks on.result need.result a.enabled a.required on.ensures need.ensures in (
      ap₂ (λ (k e : ℕ). record { kept = k; events = e }) (c.threes.ensures.0 ∙ kept) (c.threes-2.ensures.0 ∙ events),
      c.threes.ensures.1,
      c.threes-2.ensures.1,
    )
