-- Laws of the rules for layers above. Assumes nothing.
use mathlib.Core.Path.{◌≡◌, refl}
use mathlib.Core.Bool.{Bool, true, false, not, ◌&&◌, cond}

-- a rate stays where the sample stays
pub rate-stays : {X : Type 0} (enabled held due : Bool) (new old none : X)
    → cond (enabled && held) (cond due new old) none ≡ cond (enabled && held) (cond (held && not due) old new) none
rate-stays true true true new old none = refl
rate-stays true true false new old none = refl
rate-stays true false due new old none = refl
rate-stays false held due new old none = refl
