-- Laws of little-endian numbers and of consecutive writes, each over the width. Assumes nothing.
use mathlib.Core.Path.{◌≡◌, refl, sym, ap, ap₂, ◌∙◌}
use mathlib.Core.List.{List, [], ◌∷◌, ◌++◌, append_assoc}
use mathlib.Core.Logic.{◌⊎◌, inl, inr}
use Prim.Native.Nat.{ℕ, zero, suc, ◌+◌, ◌-◌, ◌*◌, ◌/◌, ◌%◌, ◌^◌, ◌≤◌, ◌<◌}
use native.Mathlib.Nat.{eq-or-lt_of_le, le_of_suc-le-suc, add-zero, add-suc, mul-zero, add_assoc, zero-add, pow-zero, pow-suc, pow-succ', div-one}
use native.Mathlib.Nat.{div-div-eq-div-mul, mul-pos, one-mul, mul_assoc, mul-add, mul_comm, suc-add, lt_of_not-le, not-le_of_lt}
use native.Mathlib.Numerals.{add-one}
use native.Mathlib.Omega.{arith}
use mathlib.Core.Bool.{Bool, true, false, ◌&&◌, false≢true}
use borrow.Author.Tests.{le-leb, lt-leb, leb-true, leb-false}
use lib.Dec.{T, leb, ltb, ltb→lt}
use lib.Arith.{mod-mul}
use lib.Pow.{are_bytes}
use lib.Ieee.Fits.{and_i, and_l, and_r}
use lib.ListN.{length, get_or, take, drop, set, length-append, length-take, length-drop}
use lib.Seq.{drop-cons, take-add, take-suc, take-take, drop-drop, sets, take_all}
use Rattle.std.proofs.lemmas.List.{drop-take}
use Rattle.std.specs.Int.{sum_through, byte_worth, bytes_low_first}
use Rattle.wire.specs.Number.{part, value, number, bytes}
use Rattle.wire.specs.Internal.Words.{words}
pub use Rattle.wire.specs.Internal.Kept.{length-bytes, value-bytes, number-back}

pub part-suc : (s : List ℕ) (at n : ℕ) → at < length s → part s at (suc n) ≡ get_or s at 0 ∷ part s (suc at) n
part-suc s at n h = rw (drop-cons s at 0)

pub length_part : (s : List ℕ) (at n : ℕ) → at + n ≤ length s → length (part s at n) ≡ n
length_part s at n h = simp (length-take, length-drop) (omega arith)

pub part-add : (s : List ℕ) (at n m : ℕ) → part s at (n + m) ≡ part s at n ++ part s (at + n) m
part-add s at n m = take-add n m (drop at s) ∙ ap (λ (l : List ℕ). part s at n ++ take m l) (drop-drop n at s)

-- what is read of a part, within it, is read of the whole
pub part-part : (s : List ℕ) (at n k m : ℕ) → k + m ≤ n → part (part s at n) k m ≡ part s (at + k) m
part-part s at n k m h =
    let e : k + (n - k) ≡ n = omega arith in
    ap (λ (j : ℕ). part (take j (drop at s)) k m) (sym e) ∙ ap (take m) (drop-take k (n - k) (drop at s))
    ∙ take-take m (n - k) (drop k (drop at s)) (omega arith)
    ∙ ap (take m) (drop-drop k at s)

pub value-append : (xs ys : List ℕ) → value (xs ++ ys) ≡ value xs + 256 ^ length xs * value ys
unfolding value
value-append [] ys = simp (pow-zero, one-mul, zero-add)
value-append (b ∷ bs) ys = simp (value-append bs ys, pow-succ', mul-add, mul_assoc, add_assoc)

pub bytes-value : (xs : List ℕ) → T (are_bytes xs) → bytes (length xs) (value xs) ≡ xs
unfolding value bytes
bytes-value [] h = refl
bytes-value (b ∷ bs) h =
    let k : b < 256 = ltb→lt b 256 (and_l (ltb b 256) (are_bytes bs) h) in
    let m : (b + 256 * value bs) % 256 ≡ b = omega arith in
    let d : (b + 256 * value bs) / 256 ≡ value bs = omega arith in
    simp (m, d, bytes-value bs (and_r (ltb b 256) (are_bytes bs) h))

pub bytes-add : (n m v : ℕ) → bytes (n + m) v ≡ bytes n v ++ bytes m (v / 256 ^ n)
unfolding bytes
bytes-add zero m v = simp (zero-add, pow-zero, div-one)
bytes-add (suc n) m v = simp (suc-add, pow-succ', ← div-div-eq-div-mul, bytes-add n m (v / 256))

power_pos : (n : ℕ) → 0 < 256 ^ n
power_pos zero = rw (pow-zero 256) (omega arith)
power_pos (suc n) = rw (pow-suc 256 n) (mul-pos (power_pos n) (omega arith))

-- bytes above the n-th don't matter
pub bytes-mod : (n v : ℕ) → bytes n (v % 256 ^ n) ≡ bytes n v
unfolding bytes
bytes-mod zero v = refl
bytes-mod (suc n) v =
    let e : v % (256 ^ n * 256) ≡ (v / 256 % 256 ^ n) * 256 + v % 256 = mod-mul v (power_pos n) (omega arith) in
    let m : v % (256 ^ n * 256) % 256 ≡ v % 256 = omega arith in
    let d : v % (256 ^ n * 256) / 256 ≡ v / 256 % 256 ^ n = omega arith in
    simp (pow-suc, m, d, bytes-mod n (v / 256))

-- a number written in two parts is that number written whole
pub bytes_halves : (n m v : ℕ) → bytes (n + m) v ≡ bytes n (v % 256 ^ n) ++ bytes m (v / 256 ^ n)
bytes_halves n m v = bytes-add n m v ∙ ap (λ (l : List ℕ). l ++ bytes m (v / 256 ^ n)) (sym (bytes-mod n v))

take-bytes : (n : ℕ) (xs : List ℕ) → T (are_bytes xs) → T (are_bytes (take n xs))
take-bytes zero xs h = tt
take-bytes (suc n) [] h = tt
take-bytes (suc n) (x ∷ xs) h =
    and_i (ltb x 256) (are_bytes (take n xs)) (and_l (ltb x 256) (are_bytes xs) h) (take-bytes n xs (and_r (ltb x 256) (are_bytes xs) h))

drop-bytes : (n : ℕ) (xs : List ℕ) → T (are_bytes xs) → T (are_bytes (drop n xs))
drop-bytes zero xs h = h
drop-bytes (suc n) [] h = tt
drop-bytes (suc n) (x ∷ xs) h = drop-bytes n xs (and_r (ltb x 256) (are_bytes xs) h)

-- the bytes of the number at an offset are those that stand there
pub bytes-part : (s : List ℕ) (at n : ℕ) → T (are_bytes s) → at + n ≤ length s → bytes n (number s at n) ≡ part s at n
bytes-part s at n b h =
    ap (λ (k : ℕ). bytes k (number s at n)) (sym (length_part s at n h)) ∙ bytes-value (part s at n) (take-bytes n (drop at s) (drop-bytes at s b))

-- consecutive writes are one
pub sets-append : (l : List ℕ) (i : ℕ) (xs ys : List ℕ) → sets (sets l i xs) (i + length xs) ys ≡ sets l i (xs ++ ys)
sets-append l i [] ys = simp add-zero
sets-append l i (x ∷ xs) ys = simp (add-suc, ← suc-add) (sets-append (set l i x) (suc i) xs ys)

-- two tests of an order agree where each order follows from the other
pub leb-same : (a b c d : ℕ) → (a ≤ b → c ≤ d) → (c ≤ d → a ≤ b) → leb a b ≡ leb c d
leb-same a b c d f g = go (leb a b) refl
  where
    go : (t : Bool) → leb a b ≡ t → leb a b ≡ leb c d
    go true e = e ∙ sym (le-leb c d (f (leb-true a b e)))
    go false e = e ∙ sym (lt-leb c d (lt_of_not-le (λ h. not-le_of_lt (leb-false a b e) (g h))))

-- ---- words

pub length-words : (vs : List ℕ) → length (words vs) ≡ 4 * length vs
unfolding words
length-words [] = simp mul-zero
length-words (v ∷ vs) = simp (length-append, length-bytes, length-words vs) (omega arith)

-- a byte is written, then words
pub byte-then : (l : List ℕ) (i b : ℕ) (vs : List ℕ) {l₁ m : List ℕ} → l₁ ≡ set l i b → m ≡ sets l₁ (i + 1) (words vs) → m ≡ sets l i (b ∷ words vs)
byte-then l i b vs e g = g ∙ rw (e, add-one)

-- words are written one by one: l₁ has the first, m the rest
pub word-then : (l : List ℕ) (i v : ℕ) (vs : List ℕ) {l₁ m : List ℕ} {j : ℕ} → l₁ ≡ sets l i (bytes 4 v) → j ≡ i + 4 → m ≡ sets l₁ j (words vs)
    → m ≡ sets l i (words (v ∷ vs))
unfolding words
word-then l i v vs {l₁} {m} {j} e f g =
    g ∙ ap (λ (k : List ℕ). sets k j (words vs)) e
    ∙ ap (λ (k : ℕ). sets (sets l i (bytes 4 v)) k (words vs)) (f ∙ ap (λ (n : ℕ). i + n) (sym (length-bytes 4 v)))
    ∙ sets-append l i (bytes 4 v) (words vs)

pub words_append : (xs ys : List ℕ) → words (xs ++ ys) ≡ words xs ++ words ys
unfolding words
words_append [] ys = refl
words_append (x ∷ xs) ys = simp (words_append xs ys, append_assoc)

-- the k words from an offset on
unfoldable pub words_at : List ℕ → ℕ → ℕ → List ℕ
words_at s at zero = []
words_at s at (suc k) = number s at 4 ∷ words_at s (at + 4) k

-- words that were read are written as the bytes that they were read from
pub words_back : (s : List ℕ) → T (are_bytes s) → (at k : ℕ) → at + 4 * k ≤ length s → words (words_at s at k) ≡ part s at (4 * k)
unfolding words words_at
words_back s b at zero h = refl
words_back s b at (suc k) h =
    let here : at + 4 ≤ length s = omega arith in
    let rest = words_back s b (at + 4) k (omega arith) in
    let e : 4 + 4 * k ≡ 4 * suc k = omega arith in
    ap₂ (λ (x y : List ℕ). x ++ y) (bytes-part s at 4 b here) rest ∙ sym (part-add s at 4 (4 * k)) ∙ ap (part s at) e

pub value-lt : (xs : List ℕ) → T (are_bytes xs) → value xs < 256 ^ length xs
unfolding value
value-lt [] h = rw pow-zero (omega arith)
value-lt (b ∷ bs) h =
    let k = ltb→lt b 256 (and_l (ltb b 256) (are_bytes bs) h) in
    omega (arith, value-lt bs (and_r (ltb b 256) (are_bytes bs) h), pow-succ' 256 (length bs))

pub number_lt : (s : List ℕ) (at n : ℕ) → T (are_bytes s) → at + n ≤ length s → number s at n < 256 ^ n
number_lt s at n b h = rw length_part at (value-lt (part s at n) (take-bytes n (drop at s) (drop-bytes at s b)))

-- both tests hold
pub and-true : (a b : Bool) → a && b ≡ true → (a ≡ true) × (b ≡ true)
and-true true b e = (refl, e)
and-true false b e = absurd (false≢true e)

-- two tests of an order hold
pub most-true : (a b m n : ℕ) {r : Bool} → r ≡ leb a m && leb b n → r ≡ true → (a ≤ m) × (b ≤ n)
most-true a b m n e f = let both = and-true (leb a m) (leb b n) (sym e ∙ f) in (leb-true a m both.0, leb-true b n both.1)

-- an element that a list has, whatever stands for one that it lacks
pub get_or-within : {A : Type 0} (xs : List A) (n : ℕ) (d e : A) → n < length xs → get_or xs n d ≡ get_or xs n e
get_or-within [] n d e h = absurd (omega arith)
get_or-within (x ∷ xs) zero d e h = refl
get_or-within (x ∷ xs) (suc n) d e h = get_or-within xs n d e (omega arith)

-- a place below n + 1 is n or below it
pub below : (P : ℕ → Type 0) {n p : ℕ} → p < suc n → P n → (p < n → P p) → P p
below P {n} {p} h last before = go (eq-or-lt_of_le (le_of_suc-le-suc h))
  where
    go : (p ≡ n) ⊎ (p < n) → P p
    go (inl e) = rw e last
    go (inr l) = before l

-- ---- what std says of bytes

low_first : (i k v : ℕ) → bytes_low_first i k v ≡ bytes k (v / 256 ^ i)
unfolding bytes
low_first i zero v = refl
low_first zero (suc k) v = simp (pow-zero, div-one, low_first 1 k v)
low_first (suc i) (suc k) v = ap (λ (l : List ℕ). v / 256 ^ suc i % 256 ∷ l) (low_first (suc (suc i)) k v ∙ ap (bytes k) (sym (next i)))
  where
    next : (i : ℕ) → v / 256 ^ suc i / 256 ≡ v / 256 ^ suc (suc i)
    next i = div-div-eq-div-mul v (256 ^ suc i) 256 ∙ ap (λ (x : ℕ). v / x) (sym (pow-suc 256 (suc i)))

sum-value : (bs : List ℕ) (k : ℕ) → k < length bs → sum_through (λ i. byte_worth i (get_or bs i 0)) k ≡ value (take (suc k) bs)
unfolding value
sum-value bs zero h = sym (ap value (take-suc bs 0 0 h) ∙ add-zero (get_or bs 0 0))
sum-value bs (suc k) h =
    let before : k < length bs = omega arith in
    let long : length (take (suc k) bs) ≡ suc k = simp length-take (omega arith) in
    let b = get_or bs (suc k) 0 in
    let one : value (b ∷ []) ≡ b = simp (mul-zero, add-zero) in
    sym (
    ap value (take-suc bs (suc k) 0 h) ∙ value-append (take (suc k) bs) (b ∷ [])
    ∙ ap (λ (n : ℕ). value (take (suc k) bs) + 256 ^ length (take (suc k) bs) * n) one
    ∙ ap (λ (n : ℕ). value (take (suc k) bs) + 256 ^ n * b) long
    ∙ ap₂ (λ (x y : ℕ). x + y) (sym (sum-value bs k before)) (mul_comm (256 ^ suc k) b)
    )

-- the number that std makes of the bytes at an offset
pub number-read : (s : List ℕ) (at k : ℕ) → at + suc k ≤ length s → sum_through (λ i. byte_worth i (get_or (part s at (suc k)) i 0)) k ≡ number s at (suc k)
number-read s at k h =
    let long = length_part s at (suc k) h in
    sum-value (part s at (suc k)) k (omega arith) ∙ ap value (take_all (suc k) (part s at (suc k)) (omega arith))

-- the bytes that std makes of a number
pub bytes-low : (k v : ℕ) → bytes_low_first 0 k v ≡ bytes k v
bytes-low k v = low_first 0 k v ∙ simp (pow-zero, div-one)
