-- `analog::step::frees_in` meets its contract. Assumes nothing.
use mathlib.Core.Path.{sym, ◌∙◌}
use Rattle.analog.proofs.Asked.{frees-unasked, same-frees}
use Rattle.analog.proofs.step.frees_in.Goals as goal

pub returns-then-only_in-eq0 : goal.returns-then-only_in-eq0
returns-then-only_in-eq0 c = frees-unasked c.args.flags c.args.met (sym c.only_in.ensures ∙ c.if-only_in-eq0.true) 0 _

pub returns : goal.returns
returns c = same-frees c.args.flags c.args.met c.frees_word.ensures.0
