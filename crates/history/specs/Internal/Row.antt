-- The start of a row of scans: in words, and as it is kept.
use Rattle.std.specs.Prelude.{ℕ, ◌≡◌, List, [], ◌∷◌, ◌++◌, Bool, true, false, not, ◌&&◌, cond}
use Rattle.history.specs.Past.{Fact, holds, Each}

-- the last scans, from one at t on, had p, and the scan before that one, if there is one, had not
pub record RowFrom {S : Type 0} (time : S → ℕ) (p : Fact S) (scans : List S) (t : ℕ) : Type 0 where
  pub later : List S
  pub first : S
  pub earlier : List S
  pub split : scans ≡ later ++ (first ∷ earlier)
  pub begins : holds p earlier ≡ false
  pub had : p first earlier ≡ true
  pub kept : Each p true later (first ∷ earlier)
  pub start : t ≡ time first

-- a start that is kept: the scan's time where the row begins with it, else what stood
abbrev pub start_kept : Bool → Bool → ℕ → ℕ → ℕ
start_kept on before time start = cond (on && not before) time start

-- when the last row with p began, whether or not it goes on; 0 where there was none
unfoldable pub begun : {S : Type 0} → (S → ℕ) → Fact S → List S → ℕ
begun time p [] = 0
begun time p (s ∷ past) = start_kept (p s past) (holds p past) (time s) (begun time p past)
