-- Elements put in front of the rest, and taken back. Assumes nothing.
use mathlib.Core.Path.{◌≡◌, sym, ap, ◌∙◌}
use mathlib.Core.List.{List, ◌++◌}
use Prim.Native.Nat.{ℕ, ◌+◌, ◌≤◌}
use native.Mathlib.Nat.{zero-add}
use native.Mathlib.Omega.{arith}
use lib.ListN.{length, take, drop}
use lib.Seq.{sets, sets-eq, take-append_seam}

-- what stands in front is taken back
pub front-taken : (l vs : List ℕ) {n : ℕ} → n ≡ length vs → length vs ≤ length l → take n (sets l 0 vs) ≡ vs
front-taken l vs e h =
    (λ i. take (e i) (sets-eq vs l 0 (omega (arith, h)) i)) ∙ take-append_seam vs (drop (0 + length vs) l)

-- what is put in front of the rest is set from the first place on
pub front-put : (l vs : List ℕ) → length vs ≤ length l → vs ++ drop (length vs) l ≡ sets l 0 vs
front-put l vs h = sym (sets-eq vs l 0 (omega arith) ∙ ap (λ (k : ℕ). vs ++ drop k l) (zero-add (length vs)))
