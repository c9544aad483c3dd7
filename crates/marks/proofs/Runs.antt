-- Reading after a run of stores, outside of it and inside. Assumes nothing.
use mathlib.Core.List.{List, [], ◌∷◌}
use mathlib.Core.Logic.{◌≢◌}
use mathlib.Core.Path.{◌≡◌, refl, ◌∙◌}
use Prim.Native.Nat.{ℕ, zero, suc, ◌+◌, ◌≤◌, ◌<◌}
use native.Mathlib.Nat.{not-suc-le-zero}
use native.Mathlib.Omega.{arith}
use lib.ListN.{length, get_or, set, length-set}
use lib.Seq.{get_or-set_same, get_or-set_other, sets}

-- j is none of the n indices from i on
abbrev pub Outside : ℕ → ℕ → ℕ → Type 0
Outside i n j = (k : ℕ) → k < n → j ≢ i + k

pub sets-outside : (vs xs : List ℕ) (i j : ℕ) → Outside i (length vs) j → get_or (sets xs i vs) j 0 ≡ get_or xs j 0
sets-outside [] xs i j h = refl
sets-outside (v ∷ vs) xs i j h =
    sets-outside vs (set xs i v) (suc i) j (λ k l e. h (suc k) (omega arith) (omega arith))
    ∙ get_or-set_other xs i j v 0 (λ e. h 0 (omega arith) (omega arith))

pub sets-inside : (vs xs : List ℕ) (i j k : ℕ) → j ≡ i + k → k < length vs → i + length vs ≤ length xs → get_or (sets xs i vs) j 0 ≡ get_or vs k 0
sets-inside [] xs i j k e l h = absurd (not-suc-le-zero l)
sets-inside (v ∷ vs) xs i j zero e l h =
    let f : j ≡ i = omega arith in
    sets-outside vs (set xs i v) (suc i) j (λ k m g. omega arith) ∙ rw f (get_or-set_same xs i v 0 (omega arith))
sets-inside (v ∷ vs) xs i j (suc k) e l h = sets-inside vs (set xs i v) (suc i) j k (omega arith) (omega arith) (rw length-set (omega arith))
