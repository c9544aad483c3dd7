-- The severities of an analog alarm's conditions stand two a word, the lower half of one at an even place, the upper at an odd one. Assumes
-- nothing.
use mathlib.Core.Bool.{cond}
use mathlib.Core.List.{List}
use mathlib.Core.Path.{◌≡◌, refl}
use Prim.Native.Nat.{ℕ, zero, suc, ◌+◌, ◌/◌, ◌%◌, ◌<◌}
use native.Mathlib.Omega.{arith}
use lib.Dec.{eqb}
use lib.ListN.{get_or}
use Rattle.settings.specs.declared.types.Form.TheVariants.{Analog as AnalogForm}
use Rattle.layout.specs.Internal.Words.{lower_of, upper_of, severities_in, kind_in}
use Rattle.event.specs.Internal.Events.{stored_severity}

module _ (ws : List ℕ) where
  -- the word of a place
  abbrev pair : ℕ → ℕ
  pair place = get_or ws (5 + place / 2) 0

  pub half-stored : (place : ℕ) → place < 6
      → cond (eqb (place % 2) 0) (lower_of (pair place)) (upper_of (pair place)) ≡ stored_severity (kind_in AnalogForm ws 0) (1 + place)
  unfolding severities_in
  half-stored zero h = refl
  half-stored (suc zero) h = refl
  half-stored (suc (suc zero)) h = refl
  half-stored (suc (suc (suc zero))) h = refl
  half-stored (suc (suc (suc (suc zero)))) h = refl
  half-stored (suc (suc (suc (suc (suc zero))))) h = refl
  half-stored (suc (suc (suc (suc (suc (suc place)))))) h = absurd (omega arith)
