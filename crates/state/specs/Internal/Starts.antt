-- Starts of runs and rows, stored with the scan that begins one.
use Rattle.std.specs.Prelude.{ℕ, suc, Bool, cond, List, [], ◌∷◌, get_or, set}

-- the word at an offset, or a time instead
abbrev pub keep_start : Bool → ℕ → ℕ → List ℕ → List ℕ
keep_start begins time at ws = set ws at (cond begins time (get_or ws at 0))

-- one after the other from an offset on
unfoldable pub keep_starts : List Bool → ℕ → ℕ → List ℕ → List ℕ
keep_starts [] time at ws = ws
keep_starts (b ∷ bs) time at ws = keep_starts bs time (suc at) (keep_start b time at ws)
