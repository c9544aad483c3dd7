-- Laws of lists of one length, one after the other, and the length of a report. Assumes nothing.
use mathlib.Core.Path.{◌≡◌, refl, sym, ap, ◌∙◌}
use mathlib.Core.List.{List, [], ◌∷◌, ◌++◌, map, append-nil}
use Prim.Native.Nat.{ℕ, zero, suc, ◌*◌}
use native.Mathlib.Nat.{mul-zero, mul-suc, zero-add}
use native.Mathlib.Numerals.{add-one}
use native.Mathlib.Omega.{arith}
use lib.ListN.{length, length-append}
use Rattle.std.specs.List.{flat_map, range_with_len}
use Rattle.std.proofs.lemmas.Grind.{flat_map-append}
use Rattle.std.proofs.lemmas.List.FromFn.{map-range_with_len_more}
use Rattle.wire.proofs.Laws.{length-bytes}
use Rattle.report.specs.declared.status.Status.{Status}
use Rattle.report.specs.declared.report.AlarmReport.{AlarmReport}
use Rattle.host_bytes.specs.Bytes.{row_bytes, whole_row, status_row, joined, condition_bytes, statuses_bytes, report_bytes}

-- what is joined is the lists that f gives, flattened
pub joined_is : (f : ℕ → List ℕ) (n : ℕ) → joined f n ≡ flat_map (λ x. x) (map f (range_with_len 0 n))
unfolding joined
joined_is f zero = refl
joined_is f (suc n) =
    let before = map f (range_with_len 0 n) in
    ap (λ (l : List ℕ). l ++ f n) (joined_is f n) ∙ ap (λ (l : List ℕ). flat_map (λ x. x) before ++ l) (sym (append-nil (f n)))
    ∙ sym (flat_map-append (λ x. x) before (f n ∷ [])) ∙ ap (flat_map (λ x. x)) (sym (map-range_with_len_more f 0 n n (zero-add n)))
    ∙ ap (λ (k : ℕ). flat_map (λ x. x) (map f (range_with_len 0 k))) (add-one n)

pub length-joined : (f : ℕ → List ℕ) (k : ℕ) → ((i : ℕ) → length (f i) ≡ k) → (n : ℕ) → length (joined f n) ≡ k * n
unfolding joined
length-joined f k each zero = sym (mul-zero k)
length-joined f k each (suc n) = omega (arith, length-append (joined f n) (f n), length-joined f k each n, each n, mul-suc k n)

-- a row of a report has 32 bytes
length-whole : (r : AlarmReport) → length (row_bytes (whole_row r.alarm r.resettime)) ≡ 32
unfolding row_bytes
length-whole r = simp (length-append, length-bytes)

length-status : (s : Status) → length (row_bytes (status_row s)) ≡ 32
unfolding row_bytes
length-status s = simp (length-append, length-bytes)

pub length-report : (r : AlarmReport) → length (report_bytes r) ≡ 224
unfolding report_bytes
length-report r =
    omega (
      arith,
      length-append (row_bytes (whole_row r.alarm r.resettime)) (statuses_bytes r.conditions),
      length-whole r,
      length-joined (condition_bytes r.conditions) 32 (λ i. length-status _) 6,
    )
