-- The six conditions of an analog alarm as lists of bits, in the order HH, H, L, LL, ROCPos, ROCNeg.
use Rattle.std.specs.Prelude.{Bool, List, [], ◌∷◌}
use Rattle.std.proofs.Math.Option.{Option}
use Rattle.settings.specs.Condition.{HH, H, L, LL, ROCPos, ROCNeg}
use Rattle.settings.specs.Numbers.{Numbers, AnalogOf}
use Rattle.level.specs.Level.{met, frees}

module _ {X : Type 0} (n : Numbers X) (a : AnalogOf X) where
  unfoldable pub met_bits : Option X → X → List Bool
  met_bits x rate =
      met n a HH x rate ∷ met n a H x rate ∷ met n a L x rate ∷ met n a LL x rate ∷ met n a ROCPos x rate ∷ met n a ROCNeg x rate ∷ []

  unfoldable pub frees_bits : Option X → List Bool
  frees_bits x = frees n a HH x ∷ frees n a H x ∷ frees n a L x ∷ frees n a LL x ∷ frees n a ROCPos x ∷ frees n a ROCNeg x ∷ []
