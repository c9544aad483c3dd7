-- The four words of a condition that the code works out. Assumes nothing.
use mathlib.Core.Bool.{Bool}
use mathlib.Core.List.{List, [], ◌∷◌}
use mathlib.Core.Path.{◌≡◌}
use Prim.Native.Nat.{ℕ}
use Rattle.condition.specs.Internal.Mark.{Marks, marks_after}
use Rattle.marks.specs.Internal.Marks.{marks_at, marks_words, turn_by}

module _ (reset required : Bool) (word start time : ℕ) (xs : List ℕ) where
  abbrev after : Marks
  after = marks_after (turn_by reset word required start time) (marks_at xs 0)

  pub condition-stores : {count alarm ack back : ℕ} → count ≡ after.count → alarm ≡ after.alarm → ack ≡ after.ack → back ≡ after.return
      → count ∷ alarm ∷ ack ∷ back ∷ [] ≡ marks_words after
  condition-stores e₀ e₁ e₂ e₃ = λ i. e₀ i ∷ e₁ i ∷ e₂ i ∷ e₃ i ∷ []
