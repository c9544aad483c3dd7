-- How many alarms of each form a bank has, and what follows from that alone. The digital alarms come first.
use Rattle.std.specs.Prelude.{ℕ, ◌+◌, ◌*◌, ◌-◌, min, Bool, ◌&&◌, cond, ltb, leb}
use Rattle.settings.specs.declared.counts.Counts.{Counts}
use Rattle.settings.specs.declared.types.Form.{Form}
use Rattle.settings.specs.declared.types.Form.TheVariants.{Digital, Analog}

-- how many alarms a section has at most, and a bank
abbrev pub each_most : ℕ
each_most = 12

abbrev pub all_most : ℕ
all_most = 24

-- a bank may have so many of each
abbrev pub are_good : Counts → Bool
are_good counts = leb counts.digital each_most && leb counts.analog each_most

-- how many there are together
abbrev pub in_all : Counts → ℕ
in_all counts = counts.digital + counts.analog

-- the sum over all alarms of what their forms give
abbrev pub sum_of : (Form → ℕ) → Counts → ℕ
sum_of each counts = each Digital * counts.digital + each Analog * counts.analog

-- the form of the alarm at a place
abbrev pub form_at : Counts → ℕ → Form
form_at counts place = cond (ltb place counts.digital) Digital Analog

-- the alarms in front of a place
abbrev pub in_front : Counts → ℕ → Counts
in_front counts place = record { digital = min place counts.digital; analog = place - counts.digital }
