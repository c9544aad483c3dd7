-- What of the bytes that wait belongs to a piece.
use Rattle.std.specs.Prelude.{◌≡◌, ℕ, ◌+◌, ◌-◌, ◌==◌, min, List, length, Option, position, is_some, unwrap_or, cond}
use Rattle.text.specs.declared.pieces.Part.{Part}

-- where the first line end, 10, stands among the bytes
abbrev pub line_end_of : List ℕ → Option ℕ
line_end_of waiting = position (λ b. b == 10) waiting

-- the part of a line: what stands before its end, which is used up with it, or all where no end is there yet
pub record IsLinePart (waiting : List ℕ) (part : Part) : Type 0 where
  pub ends : part.ends_piece ≡ is_some (line_end_of waiting)
  pub taken : part.taken ≡ unwrap_or (line_end_of waiting) (length waiting)
  pub used : part.used ≡ part.taken + cond part.ends_piece 1 0

-- the part of a record of so many bytes, of which some are held already: those that it lacks, as far as they are there
pub record IsRecordPart (size held : ℕ) (waiting : List ℕ) (part : Part) : Type 0 where
  pub taken : part.taken ≡ min (length waiting) (size - held)
  pub used : part.used ≡ part.taken
  pub ends : part.ends_piece ≡ (part.taken == (size - held))
