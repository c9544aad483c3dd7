-- `reader::count::count_at` meets its contract: each return takes the case that its tests led to. Assumes nothing.
use mathlib.Core.Path.{sym, ◌∙◌}
use borrow.Author.Tests.{lt-ltb, ltb-true, le-leb, lt-leb}
use Rattle.std.proofs.lemmas.List.{get_or_default}
use Rattle.reader.specs.Count.{count_at}
use Rattle.reader.proofs.count.count_at.Goals as goal

pub returns-in_default : goal.returns-in_default
unfolding count_at
returns-in_default c = rw c.at.ensures (simp (← c.in_default.ensures.lookup.0))

pub returns-then-n-le-MOST : goal.returns-then-n-le-MOST
unfolding count_at
returns-then-n-le-MOST c =
    let found = c.in-Some.ensures.lookup in
    let there = ltb-true _ _ (sym found.0) in
    let n = c.from-n.ensures ∙ found.1 ∙ get_or_default _ _ _ 0 there in
    simp (lt-ltb _ _ there, ← n, le-leb _ _ c.if-n-le-MOST.true)

pub returns-else-n-le-MOST : goal.returns-else-n-le-MOST
unfolding count_at
returns-else-n-le-MOST c =
    let found = c.in-Some.ensures.lookup in
    let there = ltb-true _ _ (sym found.0) in
    let n = c.from-n.ensures ∙ found.1 ∙ get_or_default _ _ _ 0 there in
    rw c.at-else-n-le-MOST.ensures (simp (lt-ltb _ _ there, ← n, lt-leb _ _ c.if-n-le-MOST.false))
