-- One more bit above those of a word, as it is packed. Assumes nothing.
use mathlib.Core.Path.{◌≡◌, refl, ap, ◌∙◌}
use mathlib.Core.Bool.{Bool, true, false, cond}
use mathlib.Core.List.{List, [], ◌∷◌, ◌++◌}
use Prim.Native.Nat.{ℕ, suc, ◌+◌, ◌-◌, ◌*◌, ◌%◌, ◌^◌, ◌≤◌, ◌<◌}
use native.Mathlib.Nat.{mod-eq_of_lt, pow-succ', mul-one, mul-zero, add-zero, one-mul, zero-mul}
use native.Mathlib.Omega.{arith}
use mir.Val.{bool_byte}
use lib.Pow.{pow-lt, pow_mono}
use lib.ListN.{length, get_or, take, length-take}
use lib.Seq.{take-suc}
use Rattle.wire.specs.Internal.Words.{word_of, spread}
use Rattle.wire.proofs.WordLaws.{word-append}

-- what a bit is worth at a place
pub worth : (b : Bool) (p : ℕ) → p < 32 → bool_byte b * 2 ^ p % 4294967296 ≡ 2 ^ p * cond b 1 0
worth true p h = simp (one-mul, mul-one) (mod-eq_of_lt (pow-lt h))
worth false p h = simp (zero-mul, mul-zero)

pub worth-most : (b : Bool) (p : ℕ) → 2 ^ p * cond b 1 0 ≤ 2 ^ p
worth-most true p = rw mul-one (omega arith)
worth-most false p = rw mul-zero (omega arith)

-- a bit above a word of p bits
pub above : (w p : ℕ) (b : Bool) → w < 2 ^ p → w + 2 ^ p * cond b 1 0 < 2 ^ suc p
above w p b h = omega (arith, worth-most b p, pow-succ' 2 p)

-- the same above two places that are free
pub above-two : (w p : ℕ) (b : Bool) → w < 2 ^ (p - 2) → w + 2 ^ p * cond b 1 0 < 2 ^ suc p
above-two w p b h = above w p b (omega (arith, pow_mono {i = p - 2} {j = p} (omega arith)))

pub word-next : (bs : List Bool) (i : ℕ) → i < length bs → word_of (take (suc i) bs) ≡ word_of (take i bs) + 2 ^ i * cond (get_or bs i false) 1 0
unfolding word_of
word-next bs i h =
    let long : length (take i bs) ≡ i = simp length-take (omega arith) in
    ap word_of (take-suc bs i false h) ∙ word-append (take i bs) (get_or bs i false ∷ [])
    ∙ ap (λ (n : ℕ). word_of (take i bs) + 2 ^ n * (cond (get_or bs i false) 1 0 + 2 * 0)) long ∙ simp (mul-zero, add-zero)

spread-append : (xs ys : List Bool) → spread (xs ++ ys) ≡ spread xs ++ spread ys
unfolding spread
spread-append [] ys = refl
spread-append (x ∷ xs) ys = ap (λ (l : List Bool). x ∷ false ∷ false ∷ l) (spread-append xs ys)

length-spread : (xs : List Bool) → length (spread xs) ≡ 3 * length xs
unfolding spread
length-spread [] = refl
length-spread (x ∷ xs) = omega (arith, length-spread xs)

pub spread-next : (bs : List Bool) (i : ℕ) → i < length bs
    → word_of (spread (take (suc i) bs)) ≡ word_of (spread (take i bs)) + 2 ^ (3 * i) * cond (get_or bs i false) 1 0
unfolding word_of spread
spread-next bs i h =
    let long : length (spread (take i bs)) ≡ 3 * i = length-spread (take i bs) ∙ simp length-take (omega arith) in
    let b = get_or bs i false in
    ap (λ (l : List Bool). word_of (spread l)) (take-suc bs i false h) ∙ ap word_of (spread-append (take i bs) (b ∷ []))
    ∙ word-append (spread (take i bs)) (b ∷ false ∷ false ∷ [])
    ∙ ap (λ (n : ℕ). word_of (spread (take i bs)) + 2 ^ n * (cond b 1 0 + 0)) long ∙ simp add-zero
