-- What decides the conditions of an analog alarm, as the code passes it on.
use Rattle.std.specs.Prelude.{ℕ, Bool, List, get_or}
use Rattle.layout.specs.Internal.Words.{lower_of}
use Rattle.decision.specs.declared.decide.Cells.{Cells}
use Rattle.analog.specs.declared.inputs.Inputs.{Inputs}
use Rattle.analog.specs.Internal.Packed.{decided, all_begin, enabled_in}

-- the six conditions, from the words of the alarm's state
abbrev pub decided_by : List ℕ → Inputs → Cells
decided_by state i =
    decided (get_or state 0 0) (get_or state 3 0) (get_or state 4 0) i.modes i.met i.frees i.duration i.required i.word i.time

-- the starts that are stored
abbrev pub begins_by : List ℕ → Inputs → List Bool
begins_by state i = all_begin (lower_of (get_or state 0 0)) (enabled_in i.modes) i.met
