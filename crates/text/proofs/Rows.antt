-- A row as it is put: each number behind a space, of which the first is left out at the end.
use mathlib.Core.Path.{◌≡◌, refl, sym, ap, ◌∙◌}
use mathlib.Core.List.{List, [], ◌∷◌, ◌++◌, append-nil}
use Prim.Native.Nat.{ℕ, ◌+◌, ◌<◌, ◌≤◌, ◌^◌, suc}
use native.Mathlib.Omega.{arith}
use lib.ListN.{length, get_or, set, drop}
use Rattle.std.specs.Prelude.{flat_map}
use Rattle.std.specs.Fmt.{decimal}
use Rattle.std.specs.Str.{IsAscii}
use Rattle.std.proofs.lemmas.Fmt.{IsAscii-decimal, decimal_nonempty, length-decimal-le}
use Rattle.std.proofs.lemmas.List.{drop-drop, drop-set, drop_more}
use Rattle.std.proofs.lemmas.Str.{IsAscii-append}
use Rattle.std.proofs.lemmas.Str.Ascii.{IsAscii-nil, IsAscii-cons}
use Rattle.text.specs.Internal.Row.{row_text}

-- each number behind a space
abbrev pub spaced : List ℕ → List ℕ
spaced numbers = flat_map (λ n. 32 ∷ decimal n) numbers

spaced-row : (n : ℕ) (more : List ℕ) → spaced (n ∷ more) ≡ 32 ∷ row_text (n ∷ more)
spaced-row n [] = ap (λ (text : List ℕ). 32 ∷ text) (append-nil (decimal n))
spaced-row n (m ∷ more) = ap (λ (text : List ℕ). 32 ∷ decimal n ++ text) (spaced-row m more)

-- one number more is put in front of those that are
pub put-more : (old text numbers : List ℕ) (left next at start after : ℕ) → next ≡ left + 1 → after ≡ start + 1 → left < length numbers →
    start < length text → drop at old ≡ spaced (drop next numbers) → drop after text ≡ decimal (get_or numbers left 0) ++ drop at old →
    drop start (set text start 32) ≡ spaced (drop left numbers)
put-more old text numbers left next at start after is_next is_after below room put wrote =
    let rest : drop (start + 1) text ≡ decimal (get_or numbers left 0) ++ spaced (drop (left + 1) numbers) =
    rw (← is_after, wrote, put, is_next) refl in
    rw (drop-set text start 32 room, rest, drop_more numbers left 0 below) refl

-- all numbers are put
pub put-all : (text numbers : List ℕ) (at left : ℕ) → left ≡ 0 → 0 < length numbers → drop at text ≡ spaced (drop left numbers) →
    drop (at + 1) text ≡ row_text numbers
put-all text [] at left none some put = absurd (omega arith)
put-all text (n ∷ more) at left none some put =
    let all : drop at text ≡ 32 ∷ row_text (n ∷ more) = put ∙ rw none (spaced-row n more) in
    sym (drop-drop 1 at text) ∙ ap (drop 1) all

-- a number has 1 to 20 digits
pub some : (numbers : List ℕ) → ((k : ℕ) → get_or numbers k 0 < 2 ^ 64) → (k : ℕ) → 0 < length (decimal (get_or numbers k 0))
some numbers fit k = decimal_nonempty (get_or numbers k 0) (fit k)

pub short : (numbers : List ℕ) → ((k : ℕ) → get_or numbers k 0 < 2 ^ 64) → (k : ℕ) → length (decimal (get_or numbers k 0)) ≤ 20
short numbers fit k = length-decimal-le 20 (get_or numbers k 0) (omega arith) (omega (arith, fit k)) (fit k)

pub row-ascii : (numbers : List ℕ) → ((k : ℕ) → get_or numbers k 0 < 2 ^ 64) → IsAscii (row_text numbers)
row-ascii [] fit = IsAscii-nil
row-ascii (n ∷ []) fit = IsAscii-decimal n (fit 0)
row-ascii (n ∷ m ∷ more) fit =
    IsAscii-append (decimal n) (32 ∷ row_text (m ∷ more)) (IsAscii-decimal n (fit 0))
    (IsAscii-cons 32 (row_text (m ∷ more)) (omega arith) (row-ascii (m ∷ more) (λ k. fit (suc k))))
