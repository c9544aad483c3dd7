-- One alarm's part of a scan record, checked: the reading before the command word.
use Rattle.std.specs.Prelude.{ℕ, ◌+◌, List, [], ◌∷◌, Bool, leb, get_or, Result}
use Rattle.wire.specs.Real.{real_at, bounded}
use Rattle.wire.specs.Bits.{sets_only}
use Rattle.settings.specs.Refusals.{checked, refusal}
use Rattle.settings.specs.declared.refusals.Refusal.{Refusal}
use Rattle.settings.specs.declared.refusals.Reason.TheVariants.{NotABit, BadReal, UnknownCommand}
use Rattle.settings.specs.declared.types.Form.{Form}
use Rattle.settings.specs.declared.types.Form.TheVariants.{Digital, Analog}
use Rattle.scan_record.specs.Part.{reading_at, word_at, entry_size}
use Rattle.scan_record.specs.declared.entry.Entry.{Entry}

-- the bits that a command word may set: digital 0 to 12 and 25, analog 0 to 25 without 1 and 8
abbrev pub bits_of : Form → List ℕ
bits_of Digital = 0 ∷ 1 ∷ 2 ∷ 3 ∷ 4 ∷ 5 ∷ 6 ∷ 7 ∷ 8 ∷ 9 ∷ 10 ∷ 11 ∷ 12 ∷ 25 ∷ []
bits_of Analog = 0 ∷ 2 ∷ 3 ∷ 4 ∷ 5 ∷ 6 ∷ 7 ∷ 9 ∷ 10 ∷ 11 ∷ 12 ∷ 13 ∷ 14 ∷ 15 ∷ 16 ∷ 17 ∷ 18 ∷ 19 ∷ 20 ∷ 21 ∷ 22 ∷ 23 ∷ 24 ∷ 25 ∷ []

-- a digital reading is a byte that is 0 or 1, an analog one a REAL within the bound
abbrev pub reading_check : Form → List ℕ → ℕ → ℕ → Refusal × Bool
reading_check Digital rec at alarm = (refusal NotABit alarm, leb (get_or rec at 0) 1)
reading_check Analog rec at alarm = (refusal BadReal alarm, bounded (real_at rec at))

-- what an alarm's part says, and the offset past it
abbrev pub entry_in : Form → List ℕ → ℕ → Entry
entry_in form rec at = record { reading = reading_at form rec at; word = word_at form rec at; next = at + entry_size form }

-- the reading, then the word's 32 bits
unfoldable pub entry_at : Form → List ℕ → ℕ → ℕ → Result Entry Refusal
entry_at form rec at alarm =
    checked
    (reading_check form rec at alarm ∷ (refusal UnknownCommand alarm, sets_only (bits_of form) 32 (word_at form rec at)) ∷ [])
    (entry_in form rec at)
