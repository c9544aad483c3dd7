-- Starts that are stored where a row begins, and stay otherwise. Assumes nothing.
use mathlib.Core.Path.{◌≡◌, refl, sym, ap, ◌∙◌}
use mathlib.Core.Logic.{◌⊎◌, inl, inr}
use mathlib.Core.Bool.{Bool, true, false, cond}
use mathlib.Core.List.{List, [], ◌∷◌, ◌++◌}
use Prim.Native.Nat.{ℕ, ◌+◌, ◌≤◌, ◌<◌, zero, suc}
use native.Mathlib.Nat.{add-zero, add-suc, suc-add}
use lib.ListN.{length, get_or, take, drop, set, replicate, length-take}
use native.Mathlib.Omega.{arith}
use lib.Seq.{take-suc, sets, set-get_or, set_comm, get_or-set_other}
use Rattle.state.specs.Internal.Starts.{keep_start, keep_starts}

-- what the words from an offset on become
unfoldable pub start_values : List Bool → ℕ → ℕ → List ℕ → List ℕ
start_values [] time at ws = []
start_values (b ∷ bs) time at ws = cond b time (get_or ws at 0) ∷ start_values bs time (suc at) ws

-- words in front of them are nothing to them
pub values-behind : (bs : List Bool) (time at i v : ℕ) (ws : List ℕ) → i < at → start_values bs time at (set ws i v) ≡ start_values bs time at ws
unfolding start_values
values-behind [] time at i v ws h = refl
values-behind (b ∷ bs) time at i v ws h = rw (get_or-set_other ws i at v 0 (λ e. omega arith), values-behind bs time (suc at) i v ws (omega arith))

pub starts-stored : (bs : List Bool) (time at : ℕ) (ws : List ℕ) → keep_starts bs time at ws ≡ sets ws at (start_values bs time at ws)
unfolding keep_starts start_values
starts-stored [] time at ws = refl
starts-stored (b ∷ bs) time at ws =
    let v : ℕ = cond b time (get_or ws at 0) in
    starts-stored bs time (suc at) (set ws at v) ∙ ap (sets (set ws at v) (suc at)) (values-behind bs time (suc at) at v ws (omega arith))

-- words in front of them stay: one, and n
keep-behind : (bs : List Bool) (time at w : ℕ) (ws : List ℕ) → keep_starts bs time (suc at) (w ∷ ws) ≡ w ∷ keep_starts bs time at ws
unfolding keep_starts
keep-behind [] time at w ws = refl
keep-behind (b ∷ bs) time at w ws = keep-behind bs time (suc at) w (keep_start b time at ws)

pub starts-behind : (bs : List Bool) (time n : ℕ) (ws : List ℕ) → n ≤ length ws → take n ws ++ keep_starts bs time 0 (drop n ws) ≡ keep_starts bs time n ws
starts-behind bs time zero ws h = refl
starts-behind bs time (suc n) [] h = absurd (omega arith)
starts-behind bs time (suc n) (w ∷ ws) h = ap (◌∷◌ w) (starts-behind bs time n ws (omega arith)) ∙ sym (keep-behind bs time n w ws)

-- where nothing begins, nothing changes
pub none-begins : (n time at : ℕ) (ws : List ℕ) → keep_starts (replicate n false) time at ws ≡ ws
unfolding keep_starts
none-begins zero time at ws = refl
none-begins (suc n) time at ws = ap (keep_starts (replicate n false) time (suc at)) (set-get_or ws at 0) ∙ none-begins n time (suc at) ws

-- some of them, and then others
keep-append : (xs ys : List Bool) (time at : ℕ) (ws : List ℕ)
    → keep_starts (xs ++ ys) time at ws ≡ keep_starts ys time (at + length xs) (keep_starts xs time at ws)
unfolding keep_starts
keep-append [] ys time at ws = ap (λ (k : ℕ). keep_starts ys time k ws) (sym (add-zero at))
keep-append (x ∷ xs) ys time at ws =
    let v = keep_start x time at ws in
    keep-append xs ys time (suc at) v
    ∙ ap (λ (k : ℕ). keep_starts ys time k (keep_starts xs time (suc at) v)) (suc-add at (length xs) ∙ sym (add-suc at (length xs)))

-- one more of them
pub next-start : (bs : List Bool) (i time at : ℕ) (ws : List ℕ) → i < length bs
    → keep_starts (take (suc i) bs) time at ws ≡ keep_start (get_or bs i false) time (at + i) (keep_starts (take i bs) time at ws)
unfolding keep_starts
next-start bs i time at ws h =
    let long : length (take i bs) ≡ i = simp length-take (omega arith) in
    ap (λ (l : List Bool). keep_starts l time at ws) (take-suc bs i false h) ∙ keep-append (take i bs) (get_or bs i false ∷ []) time at ws
    ∙ ap (λ (k : ℕ). keep_start (get_or bs i false) time (at + k) (keep_starts (take i bs) time at ws)) long

-- and it is the time where it begins, or else what it was
pub start-kept : (b : Bool) (time at : ℕ) {l m : List ℕ} → (b ≡ true) × (m ≡ set l at time) ⊎ (b ≡ false) × (m ≡ l) → m ≡ keep_start b time at l
start-kept b time at (inl h) = rw h.0 h.1
start-kept b time at {l} (inr h) = rw h.0 (h.1 ∙ sym (set-get_or l at 0))

-- a store in front of a run of stores may come first
pub set_first : (xs l : List ℕ) (i j v : ℕ) → j < i → set (sets l i xs) j v ≡ sets (set l j v) i xs
set_first [] l i j v h = refl
set_first (x ∷ xs) l i j v h =
    set_first xs (set l i x) (suc i) j v (omega arith) ∙ ap (λ (m : List ℕ). sets m (suc i) xs) (set_comm l i j x v (λ e. omega arith))
