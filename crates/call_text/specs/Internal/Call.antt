-- What a line asks for.
use Rattle.std.specs.Prelude.{◌≡◌, ℕ, ◌<◌, ◌⊎◌, List, [], length, slice_index, Option, None, Some}
use Rattle.call_text.specs.declared.call.Call.{Call}
use Rattle.call_text.specs.declared.call.Call.TheVariants.{Settings, Scan, Report, Write}

-- how many bytes the buffer has that it lends
abbrev pub room_of : Option Call → ℕ
room_of None = 0
room_of (Some (Settings image)) = 0
room_of (Some (Scan room bytes)) = room
room_of (Some (Report alarm)) = 0
room_of (Some (Write room)) = room

-- an empty line, or one that begins with #, which is 35
abbrev pub IsComment : List ℕ → Type 0
IsComment line = (line ≡ []) ⊎ ((0 < length line) × (slice_index line 0 ≡ 35))
