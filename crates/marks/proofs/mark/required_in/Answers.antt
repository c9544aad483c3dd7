-- `marks::mark::required_in` meets its contract: by the form. Assumes nothing.
use mathlib.Core.Path.{ap, ◌∙◌}
use Prim.Native.Nat.{ℕ}
use Rattle.wire.specs.Bits.{bit}
use Rattle.layout.specs.Internal.Words.{alarm_in}
use Rattle.marks.proofs.mark.required_in.Goals as goal

pub returns-in-Digital : goal.returns-in-Digital
unfolding alarm_in
returns-in-Digital c = rw c.in-Digital.is (c.is_set.ensures ∙ ap (λ (v : ℕ). bit v 1) (c.from-flags.ensures ∙ c.flags_in.ensures))

pub returns-in-Analog : goal.returns-in-Analog
unfolding alarm_in
returns-in-Analog c = rw c.in-Analog.is (c.is_set-in-Analog.ensures ∙ ap (λ (v : ℕ). bit v 4) (c.from-flags.ensures ∙ c.flags_in.ensures))
