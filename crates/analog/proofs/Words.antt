-- The words of an analog alarm, stored in part. Assumes nothing.
use mathlib.Core.Path.{◌≡◌, ap, ◌∙◌, sym}
use mathlib.Core.List.{List, ◌++◌, [], ◌∷◌}
use Prim.Native.Nat.{ℕ, ◌+◌, suc}
use lib.ListN.{get_or, set}
use native.Mathlib.Omega.{arith}
use lib.Seq.{sets, set-get_or, get_or-set_other}
use Rattle.layout.proofs.Laws.{get_or-above, get_or-below}
use Rattle.layout.proofs.Stay.{copied, stay}
use Rattle.state.proofs.Starts.{set_first}

-- the first three words, and the starts
pub analog-stored : (ws : List ℕ) (at first sample sampled : ℕ) (vs : List ℕ)
    → set (sets (sets ws (at + 1) (sample ∷ sampled ∷ [])) (at + 3) vs) at first ≡ sets ws at (first ∷ sample ∷ sampled ∷ vs)
analog-stored ws at first sample sampled vs =
    let n1 : at + 1 ≡ suc at = omega arith in
    let n3 : at + 3 ≡ suc (suc (suc at)) = omega arith in
    set_first vs (sets ws (at + 1) (sample ∷ sampled ∷ [])) (at + 3) at first (omega arith)
    ∙ ap (λ (m : List ℕ). sets m (at + 3) vs) (set_first (sample ∷ sampled ∷ []) ws (at + 1) at first (omega arith))
    ∙ rw (n1, n3)

-- the sample's words are not the others
pub beside-sample : (ws : List ℕ) (at sample sampled : ℕ)
    → (get_or (sets ws (at + 1) (sample ∷ sampled ∷ [])) at 0 ≡ get_or ws at 0)
    × (get_or (sets ws (at + 1) (sample ∷ sampled ∷ [])) (at + 3) 0 ≡ get_or ws (at + 3) 0)
    × (get_or (sets ws (at + 1) (sample ∷ sampled ∷ [])) (at + 4) 0 ≡ get_or ws (at + 4) 0)
beside-sample ws at sample sampled = (
  get_or-below ws (at + 1) (sample ∷ sampled ∷ []) at 0 (omega arith),
  get_or-above ws (at + 1) (sample ∷ sampled ∷ []) (at + 3) 0 (omega arith),
  get_or-above ws (at + 1) (sample ∷ sampled ∷ []) (at + 4) 0 (omega arith),
)

-- of an alarm at rest the sample alone
pub rest-stored : (ws : List ℕ) (at sample sampled : ℕ) → sets ws (at + 1) (sample ∷ sampled ∷ [])
    ≡ sets ws at (get_or ws at 0 ∷ sample ∷ sampled ∷ (copied ws (suc (suc (suc at))) 8 ++ []))
rest-stored ws at sample sampled =
    let n1 : at + 1 ≡ suc at = omega arith in
    let l : List ℕ = set (set ws (suc at) sample) (suc (suc at)) sampled in
    rw n1
    (sym
    (ap (λ (m : List ℕ). sets m (suc at) (sample ∷ sampled ∷ (copied ws (suc (suc (suc at))) 8 ++ []))) (set-get_or ws at 0)
    ∙ stay 8 ws l (suc (suc (suc at))) []
    (λ k g. get_or-set_other (set ws (suc at) sample) (suc (suc at)) k sampled 0 (λ e. omega arith)
    ∙ get_or-set_other ws (suc at) k sample 0 (λ e. omega arith))))
