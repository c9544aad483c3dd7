-- The start that is kept is the row's while the row goes on. Assumes nothing.
use Prim.Native.Nat.{ℕ}
use mathlib.Core.Path.{◌≡◌, refl, ◌∙◌}
use mathlib.Core.List.{List, [], ◌∷◌}
use mathlib.Core.Bool.{Bool, true, false, cond}
use Rattle.history.specs.Past.{Fact, holds, row_start}
use Rattle.history.specs.Internal.Row.{start_kept, begun}

-- a start that is kept is used only while its row goes on
pub kept-start : (on before : Bool) (time start : ℕ) → on ≡ true → start_kept on before time start ≡ cond before start time
kept-start on true time start e = rw e
kept-start on false time start e = rw e

module _ {S : Type 0} (time : S → ℕ) (p : Fact S) where
  -- by whether the row goes on
  goes : (past : List S) (t : ℕ) → (holds p past ≡ true → begun time p past ≡ row_start time p past) → (b : Bool) → holds p past ≡ b
      → cond b (begun time p past) t ≡ cond b (row_start time p past) t
  goes past t h true e = h e
  goes past t h false e = refl

  pub begun-row : (scans : List S) → holds p scans ≡ true → begun time p scans ≡ row_start time p scans
  unfolding begun row_start
  begun-row [] h = refl
  begun-row (s ∷ past) h =
      kept-start (p s past) (holds p past) (time s) (begun time p past) h ∙ goes past (time s) (begun-row past) (holds p past) refl

  -- a start is asked for only of a row that goes on
  pub row_goes : (past : List S) (t : ℕ) → cond (holds p past) (begun time p past) t ≡ cond (holds p past) (row_start time p past) t
  row_goes past t = goes past t (begun-row past) (holds p past) refl
