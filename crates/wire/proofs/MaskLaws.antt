-- Words with a bit at every third place, and what `&`, `|` and `^` make of them. Assumes nothing.
use mathlib.Core.Path.{◌≡◌, refl, sym, ap, ap₂, fun_ext, ◌∙◌}
use mathlib.Core.Bool.{Bool, true, false, not, ◌&&◌, ◌||◌, beq, cond}
use mathlib.Core.List.{List, [], ◌∷◌}
use Prim.Native.Nat.{ℕ, zero, suc, ◌+◌, ◌*◌, ◌/◌, ◌%◌, ◌^◌, ◌≤◌, ◌<◌}
use native.Mathlib.Omega.{arith}
use lib.ListN.{get_or}
use lib.Bits.{bit_and, bit_or, bit_xor, and_block, or_block, xor_block, and_mask, and_zero_r, and_comm}
use Rattle.wire.specs.Bits.{bit}
use Rattle.wire.specs.Internal.Words.{word_of, spread}
use Rattle.wire.proofs.WordLaws.{bit_word, bit-digit, bit-shift}

-- the bit of each place is read back
get-spread : (bs : List Bool) (k : ℕ) → get_or (spread bs) (3 * k) false ≡ get_or bs k false
unfolding spread
get-spread [] k = refl
get-spread (b ∷ bs) zero = refl
get-spread (b ∷ bs) (suc k) = let e : 3 * suc k ≡ suc (suc (suc (3 * k))) = omega arith in rw e (get-spread bs k)

pub bit-spread : (bs : List Bool) (k : ℕ) → bit (word_of (spread bs)) (3 * k) ≡ get_or bs k false
bit-spread bs k = bit_word (spread bs) (3 * k) ∙ get-spread bs k

-- the word that has f k at place 3 k, for each k below n
unfoldable pub thirds : ℕ → (ℕ → Bool) → ℕ
thirds zero f = 0
thirds (suc n) f = thirds n (λ k. f (suc k)) * 8 + cond (f 0) 1 0

thirds-same : (n : ℕ) {f g : ℕ → Bool} → ((k : ℕ) → f k ≡ g k) → thirds n f ≡ thirds n g
thirds-same n h = ap (thirds n) (fun_ext h)

digit_lt : (b : Bool) → cond b 1 0 < 8
digit_lt true = omega arith
digit_lt false = omega arith

-- an operation that works on each run of three bits apart
module _ (op : ℕ → ℕ → ℕ) (on : Bool → Bool → Bool)
    (none : op 0 0 ≡ 0)
    (digit : (a b : Bool) → op (cond a 1 0) (cond b 1 0) ≡ cond (on a b) 1 0)
    (block : (k a b r s : ℕ) → r < 2 ^ k → s < 2 ^ k → op (a * 2 ^ k + r) (b * 2 ^ k + s) ≡ op a b * 2 ^ k + op r s) where
  op-thirds : (n : ℕ) (f g : ℕ → Bool) → op (thirds n f) (thirds n g) ≡ thirds n (λ k. on (f k) (g k))
  unfolding thirds
  op-thirds zero f g = none
  op-thirds (suc n) f g =
      block 3 (thirds n (λ k. f (suc k))) (thirds n (λ k. g (suc k))) (cond (f 0) 1 0) (cond (g 0) 1 0) (digit_lt (f 0)) (digit_lt (g 0))
      ∙ ap₂ (λ (x y : ℕ). x * 8 + y) (op-thirds n (λ k. f (suc k)) (λ k. g (suc k))) (digit (f 0) (g 0))

and-thirds : (n : ℕ) (f g : ℕ → Bool) → bit_and (thirds n f) (thirds n g) ≡ thirds n (λ k. f k && g k)
and-thirds = op-thirds bit_and ◌&&◌ refl go and_block
  where
    go : (a b : Bool) → bit_and (cond a 1 0) (cond b 1 0) ≡ cond (a && b) 1 0
    go true true = refl
    go true false = refl
    go false b = refl

or-thirds : (n : ℕ) (f g : ℕ → Bool) → bit_or (thirds n f) (thirds n g) ≡ thirds n (λ k. f k || g k)
or-thirds = op-thirds bit_or ◌||◌ refl go or_block
  where
    go : (a b : Bool) → bit_or (cond a 1 0) (cond b 1 0) ≡ cond (a || b) 1 0
    go true true = refl
    go true false = refl
    go false b = refl

xor-thirds : (n : ℕ) (f g : ℕ → Bool) → bit_xor (thirds n f) (thirds n g) ≡ thirds n (λ k. not (beq (f k) (g k)))
xor-thirds = op-thirds bit_xor (λ a b. not (beq a b)) refl go xor_block
  where
    go : (a b : Bool) → bit_xor (cond a 1 0) (cond b 1 0) ≡ cond (not (beq a b)) 1 0
    go true true = refl
    go true false = refl
    go false true = refl
    go false false = refl

-- of any word, the bits at every third place are left
mask-thirds : (n w : ℕ) (f : ℕ → Bool) → bit_and w (thirds n f) ≡ thirds n (λ k. f k && bit w (3 * k))
unfolding thirds
mask-thirds zero w f = and_zero_r w
mask-thirds (suc n) w f =
    let w-is : w ≡ w / 8 * 8 + w % 8 = omega arith in
    let low : w % 8 < 8 = omega arith in
    let next : (k : ℕ) → bit (w / 8) (3 * k) ≡ bit w (3 * suc k) = λ k. let e : 3 + 3 * k ≡ 3 * suc k = omega arith in bit-shift w 3 (3 * k) ∙ ap (bit w) e in
    ap (λ (x : ℕ). bit_and x (thirds (suc n) f)) w-is
    ∙ and_block 3 (w / 8) (thirds n (λ k. f (suc k))) (w % 8) (cond (f 0) 1 0) low (digit_lt (f 0))
    ∙ ap₂ (λ (x y : ℕ). x * 8 + y)
    (mask-thirds n (w / 8) (λ k. f (suc k)) ∙ thirds-same n (λ k. ap (λ (b : Bool). f (suc k) && b) (next k)))
    (go (f 0))
  where
    go : (b : Bool) → bit_and (w % 8) (cond b 1 0) ≡ cond (b && bit w 0) 1 0
    go true = let e : w % 8 % 2 ≡ w / 1 % 2 = omega arith in and_mask (w % 8) 1 ∙ e ∙ sym (bit-digit w 0)
    go false = and_zero_r (w % 8)

thirds-le : (n : ℕ) (f : ℕ → Bool) → thirds n f ≤ thirds n (λ k. true)
unfolding thirds
thirds-le zero f = omega arith
thirds-le (suc n) f = let h = thirds-le n (λ k. f (suc k)) in let l = digit-le (f 0) in omega arith
  where
    digit-le : (b : Bool) → cond b 1 0 ≤ 1
    digit-le true = omega arith
    digit-le false = omega arith

-- ---- words of six such bits

-- w has f k at place 3 k, for each k below 6, and no other bit
pub record Thirds (w : ℕ) (f : ℕ → Bool) : Type 0 where
  pub word : w ≡ thirds 6 f

pub every : (b : Bool) → Thirds (cond b 37449 0) (λ k. b)
unfolding thirds
every true = record { word = refl }
every false = record { word = refl }

pub within : {w : ℕ} {f : ℕ → Bool} → Thirds w f → w ≤ 37449
unfolding thirds
within {f = f} p = rw p.word (thirds-le 6 f)

pub same : {w : ℕ} {f g : ℕ → Bool} → Thirds w f → ((k : ℕ) → f k ≡ g k) → Thirds w g
same p h = record { word = p.word ∙ thirds-same 6 h }

module _ {v w : ℕ} {f g : ℕ → Bool} (p : Thirds v f) (q : Thirds w g) where
  pub both : Thirds (bit_and v w) (λ k. f k && g k)
  both = record { word = ap₂ bit_and p.word q.word ∙ and-thirds 6 f g }

  pub either : Thirds (bit_or v w) (λ k. f k || g k)
  either = record { word = ap₂ bit_or p.word q.word ∙ or-thirds 6 f g }

  pub differ : Thirds (bit_xor v w) (λ k. not (beq (f k) (g k)))
  differ = record { word = ap₂ bit_xor p.word q.word ∙ xor-thirds 6 f g }

module _ {w : ℕ} {f : ℕ → Bool} (p : Thirds w f) where
  -- each bit turned round
  pub flip : Thirds (bit_xor w 37449) (λ k. not (f k))
  flip = same (differ p (every true)) (λ k. go (f k))
    where
      go : (b : Bool) → not (beq b true) ≡ not b
      go true = refl
      go false = refl

  -- with any word, whose other bits fall away
  pub of_word : (v : ℕ) → Thirds (bit_and v w) (λ k. f k && bit v (3 * k))
  of_word v = record { word = ap (bit_and v) p.word ∙ mask-thirds 6 v f }

  pub with-word : (v : ℕ) → Thirds (bit_and w v) (λ k. f k && bit v (3 * k))
  with-word v = rw (and_comm w v) (of_word v)

-- three words, their bits side by side
pub join : {u v w : ℕ} {f g h : ℕ → Bool} → Thirds u f → Thirds v g → Thirds w h
    → u + 2 * v + 4 * w
    ≡ word_of (f 0 ∷ g 0 ∷ h 0 ∷ f 1 ∷ g 1 ∷ h 1 ∷ f 2 ∷ g 2 ∷ h 2 ∷ f 3 ∷ g 3 ∷ h 3 ∷ f 4 ∷ g 4 ∷ h 4 ∷ f 5 ∷ g 5 ∷ h 5 ∷ [])
unfolding thirds word_of
join p q r = rw (p.word, q.word, r.word) (omega arith)
