-- A scan record: the time, then for each alarm in number order its reading and a command word.
use Rattle.std.specs.Prelude.{ℕ, ◌+◌, List, eqb, get_or}
use Rattle.wire.specs.Number.{number}
use Rattle.wire.specs.Real.{real_at}
use Rattle.settings.specs.Counts.{sum_of, in_front}
use Rattle.settings.specs.declared.counts.Counts.{Counts}
use Rattle.settings.specs.declared.types.Form.{Form}
use Rattle.settings.specs.declared.types.Form.TheVariants.{Digital, Analog}
use Rattle.settings.specs.declared.types.Reading.{Reading}
use Rattle.settings.specs.declared.types.Reading.TheVariants.{Digital as Bit, Level}

-- the scan's time stands first, in 8 bytes
abbrev pub time_size : ℕ
time_size = 8

abbrev pub time_of : List ℕ → ℕ
time_of rec = number rec 0 time_size

-- an alarm's part: a digital bit in one byte or a REAL in four, then the command word in four
abbrev pub reading_size : Form → ℕ
reading_size Digital = 1
reading_size Analog = 4

abbrev pub entry_size : Form → ℕ
entry_size form = reading_size form + 4

abbrev pub reading_at : Form → List ℕ → ℕ → Reading
reading_at Digital rec at = Bit (eqb (get_or rec at 0) 1)
reading_at Analog rec at = Level (real_at rec at)

abbrev pub word_at : Form → List ℕ → ℕ → ℕ
word_at form rec at = number rec (at + reading_size form) 4

-- the length of a record
abbrev pub record_size : Counts → ℕ
record_size counts = time_size + sum_of entry_size counts

-- where the part of the alarm at a place begins: where a record of the alarms in front of it would end
abbrev pub offset_of : Counts → ℕ → ℕ
offset_of counts place = record_size (in_front counts place)
