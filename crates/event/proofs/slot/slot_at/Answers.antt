-- `event::slot::slot_at` meets its contract: by the form. Assumes nothing.
use borrow.Author.Rules.{rules}
use mathlib.Core.Path.{◌∙◌}
use mathlib.Core.Bool.{cond}
use Prim.Native.Nat.{◌%◌}
use lib.Dec.{eqb}
use Rattle.event.proofs.Slots.{half-stored}
use Rattle.event.proofs.slot.slot_at.Goals as goal

pub returns-in-Analog-clause-severity : goal.returns-in-Analog-clause-severity
returns-in-Analog-clause-severity c =
    rw c.in-Analog.is
    (c.choose.ensures
    ∙ (λ i. cond (eqb (c.args.place % 2) 0) (c.lower.ensures i) (c.upper.ensures i))
    ∙ half-stored c.args.source.now.settings.now c.args.place (search rules))
