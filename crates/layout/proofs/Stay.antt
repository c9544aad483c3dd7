-- Words that stay, and offsets. Assumes nothing.
use mathlib.Core.Path.{◌≡◌, ap, ◌∙◌, sym}
use mathlib.Core.List.{List, ◌++◌, [], ◌∷◌}
use Prim.Native.Nat.{ℕ, ◌+◌, ◌≤◌, zero, suc}
use lib.ListN.{get_or, set}
use native.Mathlib.Omega.{arith}
use native.Mathlib.Nat.{zero-add}
use lib.Seq.{sets, set-get_or}
use Rattle.layout.specs.Internal.Words.{lower_of, upper_of, pair_of}

-- a word is the pair of its halves
pub pair-back : (w : ℕ) → pair_of (lower_of w) (upper_of w) ≡ w
pair-back w = omega arith

-- ---- words that stay

-- n words from an offset on
unfoldable pub copied : List ℕ → ℕ → ℕ → List ℕ
copied ws at zero = []
copied ws at (suc n) = get_or ws at 0 ∷ copied ws (suc at) n

-- storing them again changes nothing, where they stand yet
pub stay : (n : ℕ) (ws l : List ℕ) (at : ℕ) (vs : List ℕ) → ((k : ℕ) → at ≤ k → get_or l k 0 ≡ get_or ws k 0)
    → sets l at (copied ws at n ++ vs) ≡ sets l (n + at) vs
unfolding copied
stay zero ws l at vs h = ap (λ (k : ℕ). sets l k vs) (sym (zero-add at))
stay (suc n) ws l at vs h =
    let e : set l at (get_or ws at 0) ≡ l = ap (set l at) (sym (h at (omega arith))) ∙ set-get_or l at 0 in
    let s : n + suc at ≡ suc n + at = omega arith in
    ap (λ (m : List ℕ). sets m (suc at) (copied ws (suc at) n ++ vs)) e ∙ stay n ws l (suc at) vs (λ k g. h k (omega arith)) ∙ ap (λ (k : ℕ). sets l k vs) s

-- offsets as sums, and as successors
module _ (at : ℕ) where
  pub n1 : at + 1 ≡ suc at
  n1 = omega arith

  pub n2 : at + 2 ≡ suc (suc at)
  n2 = omega arith

  pub n3 : at + 3 ≡ suc (suc (suc at))
  n3 = omega arith

  pub n4 : at + 4 ≡ suc (suc (suc (suc at)))
  n4 = omega arith

  pub n5 : at + 5 ≡ suc (suc (suc (suc (suc at))))
  n5 = omega arith

  pub n6 : at + 6 ≡ suc (suc (suc (suc (suc (suc at)))))
  n6 = omega arith

  pub n7 : at + 7 ≡ suc (suc (suc (suc (suc (suc (suc at))))))
  n7 = omega arith

  pub n8 : at + 8 ≡ suc (suc (suc (suc (suc (suc (suc (suc at)))))))
  n8 = omega arith

  pub n9 : at + 9 ≡ suc (suc (suc (suc (suc (suc (suc (suc (suc at))))))))
  n9 = omega arith

  pub n10 : at + 10 ≡ suc (suc (suc (suc (suc (suc (suc (suc (suc (suc at)))))))))
  n10 = omega arith
