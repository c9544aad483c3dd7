-- Numbers written one after the other. Assumes nothing.
use mathlib.Core.List.{List, ◌∷◌}
use mathlib.Core.Path.{◌≡◌, refl, sym, ap, ◌∙◌}
use Prim.Native.Nat.{ℕ, ◌+◌, ◌*◌, ◌≤◌, ◌<◌}
use native.Mathlib.Nat.{add-zero, mul-zero}
use native.Mathlib.Numerals.{add-one}
use native.Mathlib.Omega.{arith}
use lib.ListN.{length, get_or, drop, drop_of_length-le}
use lib.Seq.{sets, drop-cons}
use Rattle.wire.specs.Number.{bytes}
use Rattle.wire.specs.Internal.Words.{words}
use Rattle.wire.proofs.Laws.{word-then}

module _ (ns out : List ℕ) (at : ℕ) where
  pub numbers-all : sets out (at + 4 * 0) (words (drop 0 ns)) ≡ sets out at (words ns)
  numbers-all = rw (mul-zero, add-zero)

  -- writing a number and then those behind it is writing all
  pub numbers-next : (i : ℕ) {us : List ℕ} → i < length ns → us ≡ sets out (at + 4 * i) (bytes 4 (get_or ns i 0))
      → sets us (at + 4 * (i + 1)) (words (drop (i + 1) ns)) ≡ sets out (at + 4 * i) (words (drop i ns))
  numbers-next i {us} h e =
      let n : drop i ns ≡ get_or ns i 0 ∷ drop (i + 1) ns = drop-cons ns i 0 h ∙ rw add-one in
      word-then out (at + 4 * i) (get_or ns i 0) (drop (i + 1) ns) e (omega arith) refl ∙ ap (λ (l : List ℕ). sets out (at + 4 * i) (words l)) (sym n)

  pub numbers-none : (i : ℕ) → length ns ≤ i → sets out (at + 4 * i) (words (drop i ns)) ≡ out
  unfolding words
  numbers-none i h = rw (drop_of_length-le ns h)
