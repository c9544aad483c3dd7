-- `marks::words::mark_condition` meets its contract: without events and a reset nothing changes; otherwise four words are worked out. Assumes
-- nothing.
use borrow.Author.Tests.{eqb-true, not-true}
use mathlib.Core.Bool.{Bool, not, cond}
use mathlib.Core.Path.{sym, ap, ◌∙◌}
use mathlib.Core.List.{List}
use Prim.Native.Nat.{ℕ, ◌%◌}
use native.Mathlib.Omega.{arith}
use lib.Dec.{eqb}
use lib.ListN.{get_or}
use Rattle.wire.proofs.Laws.{and-true}
use Rattle.history.specs.Internal.Condition.{count_after}
use Rattle.condition.specs.Internal.Mark.{ack_stamp_after}
use Rattle.layout.proofs.Laws.{sets-whole}
use Rattle.marks.specs.Internal.Marks.{mark_condition}
use Rattle.marks.proofs.Still.{turn-still}
use Rattle.marks.proofs.Stores.{condition-stores}
use Rattle.marks.proofs.words.mark_condition.Goals as goal

pub returns-then-reset-events : goal.returns-then-reset-events
unfolding mark_condition
returns-then-reset-events c =
    let x = c.args.change in
    let p = and-true (not x.reset) (eqb (x.events % 8) 0) c.if-reset-events.true in
    sym (turn-still x.required x.start x.time 0 x.events c.args.words.now (not-true x.reset p.0) (eqb-true _ _ p.1))
    ∙ sets-whole c.args.words.now _ (omega arith)

pub returns : goal.returns
returns c =
    let x = c.args.change in
    let ws : List ℕ = c.args.words.now in
    let activated = c.is_set-activated.ensures in
    let acknowledged = c.is_set-acknowledged.ensures in
    condition-stores x.reset x.required x.events x.start x.time ws
    (c.count_after.ensures ∙ ap (λ (b : Bool). count_after x.reset b (get_or ws 0 0)) activated)
    (c.choose.ensures ∙ ap (λ (b : Bool). cond b x.start (get_or ws 1 0)) activated)
    (c.ack_stamp.ensures ∙ (λ i. ack_stamp_after (acknowledged i) (activated i) x.required x.start x.time (get_or ws 2 0)))
    (c.choose-2.ensures ∙ ap (λ (b : Bool). cond b x.time (get_or ws 3 0)) c.is_set-returned.ensures)
