-- `analog::finish::due_in` meets its contract. Assumes nothing.
use mathlib.Core.Path.{sym, ◌∙◌}
use Rattle.analog.proofs.Asked.{ready-unasked, same-ready}
use Rattle.analog.proofs.finish.due_in.Goals as goal

pub returns-then-only_in-eq0 : goal.returns-then-only_in-eq0
returns-then-only_in-eq0 c =
    ready-unasked c.args.flags c.args.met (sym c.only_in.ensures ∙ c.if-only_in-eq0.true) 0 _

pub returns : goal.returns
returns c = let a = c.args in same-ready a.flags a.met c.ready_in.ensures.0
