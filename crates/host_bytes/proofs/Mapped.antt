-- What `map` makes of an array. Assumes nothing.
use denote.Param.Members.{Mut, Called}
use mathlib.Core.Path.{◌≡◌, sym, ◌∙◌}
use mathlib.Core.List.{List, map}
use Prim.Native.Nat.{ℕ}
use native.Mathlib.Nat.{zero-add}
use native.Mathlib.Omega.{arith}
use lib.ListN.{length, get_or, get_or-map, length-map}
use Rattle.std.specs.Array.{IsMapOf}
use Rattle.std.specs.List.{range_with_len}
use Rattle.std.proofs.lemmas.List.{ext_get_or}
use Rattle.std.proofs.lemmas.List.FromFn.{get_or-map-range_with_len, length-map-range_with_len}

-- what a call gives of an element stands in its place
pub mapped : {F A B : Type 0} {g : Mut F (A × Unit {0}) B} {f : F} {n : ℕ} {xs : List A} {ys : List B} (v : A → B) (d : A)
    → ((p : F) (x : A) (y : B) (q : F) → Called g p (x, tt) y q → y ≡ v x) → length xs ≡ n → IsMapOf g f xs ys n → ys ≡ map v xs
mapped {xs} {ys} v d gives h m =
    ext_get_or (v d) ys (map v xs) (m.long ∙ sym (length-map xs v ∙ h))
    (λ i b. let at = m.at i d (v d) (omega (arith, m.long)) in gives at.0 (get_or xs i d) (get_or ys i (v d)) at.1 at.2 ∙ sym (get_or-map v xs i d))

-- an array is its elements, one after the other
pub listed : {A : Type 0} (d : A) (xs : List A) (n : ℕ) → length xs ≡ n → map (λ i. get_or xs i d) (range_with_len 0 n) ≡ xs
listed d xs n h =
    ext_get_or d _ xs (length-map-range_with_len (λ i. get_or xs i d) 0 n ∙ sym h)
    (λ i b. get_or-map-range_with_len (λ i. get_or xs i d) 0 n i i d (omega (arith, length-map-range_with_len (λ i. get_or xs i d) 0 n)) (zero-add i))
