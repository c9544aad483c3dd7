-- A record's bytes, cut out of its image, say what the image says of it. Assumes nothing.
use mathlib.Core.Path.{◌≡◌, refl, ap, ◌∙◌}
use mathlib.Core.List.{List, [], ◌∷◌}
use mathlib.Core.Bool.{Bool, true, false, cond}
use Prim.Native.Nat.{ℕ, ◌+◌, ◌*◌, ◌≤◌, ◌<◌}
use native.Mathlib.Nat.{add-zero}
use native.Mathlib.Omega.{arith}
use borrow.Author.Tests.{le-leb, lt-leb}
use lib.ListN.{length, get_or, drop}
use lib.Seq.{get_or-take, get_or-drop}
use Rattle.std.specs.Prelude.{Result}
use Rattle.std.proofs.Common.{Err}
use Rattle.wire.specs.Number.{part}
use Rattle.wire.proofs.Laws.{part-part}
use Rattle.settings.specs.Refusals.{checked, refusal}
use Rattle.settings.specs.declared.types.Alarm.{Alarm}
use Rattle.settings.specs.declared.types.Form.{Form}
use Rattle.settings.specs.declared.types.Form.TheVariants.{Digital as DigitalForm, Analog as AnalogForm}
use Rattle.settings.specs.declared.refusals.Refusal.{Refusal}
use Rattle.settings.specs.declared.refusals.Reason.TheVariants.{Incomplete}
use Rattle.settings_record.specs.Record.{size_of, severities_at, limits_at, fields_at, checks_of, record_at}
use Rattle.settings_record.specs.Internal.Whole.{whole_record, along}

module _ (image : List ℕ) (at n : ℕ) where
  byte-cut : 0 < n → get_or (part image at n) 0 0 ≡ get_or image at 0
  byte-cut h = get_or-take n (drop at image) 0 0 h ∙ get_or-drop at image 0 0 ∙ ap (λ (k : ℕ). get_or image k 0) (add-zero at)

  word-cut : (k : ℕ) → 4 * k + 5 ≤ n → part (part image at n) (1 + 4 * k) 4 ≡ part image (at + (1 + 4 * k)) 4
  word-cut k h = part-part image at n (1 + 4 * k) 4 (omega arith)

fields-cut : (form : Form) (image : List ℕ) (at : ℕ) → fields_at form (part image at (size_of form)) 0 ≡ fields_at form image at
unfolding fields_at severities_at limits_at
fields-cut DigitalForm image at = let w = word-cut image at 9 in rw (byte-cut image at 9 (omega arith), w 0 (omega arith), w 1 (omega arith))
fields-cut AnalogForm image at =
    let w = word-cut image at 61 in
    rw (
      byte-cut image at 61 (omega arith),
      w 0 (omega arith),
      w 1 (omega arith),
      w 2 (omega arith),
      w 3 (omega arith),
      w 4 (omega arith),
      w 5 (omega arith),
      w 6 (omega arith),
      w 7 (omega arith),
      w 8 (omega arith),
      w 9 (omega arith),
      w 10 (omega arith),
      w 11 (omega arith),
      w 12 (omega arith),
      w 13 (omega arith),
      w 14 (omega arith),
    )

checked-along : {A : Type 0} (row : List (Refusal × Bool)) (x : A) (n : ℕ) → checked row (x, n) ≡ along n (checked row x)
unfolding checked
checked-along [] x n = refl
checked-along {A} (c ∷ rest) x n = go c.1 (checked-along rest x n)
  where
    go : (b : Bool) → checked rest (x, n) ≡ along n (checked rest x)
        → cond b (checked rest (x, n)) (Err c.0) ≡ along n (cond b (checked rest x) (Err c.0))
    go true ih = ih
    go false ih = refl

-- a record that is there whole is read as its bytes say
pub record-cut : (form : Form) (image : List ℕ) (at : ℕ) {bytes : List ℕ} {r : Result Alarm Refusal}
    → (at + size_of form ≤ length image) × (bytes ≡ part image at (size_of form)) → whole_record form bytes at ≡ r
    → record_at form image at ≡ along (at + size_of form) r
unfolding record_at checked
record-cut form image at h e =
    let a = fields_at form image at in
    let next = at + size_of form in
    rw (le-leb _ _ h.0) (checked-along (checks_of a.kind a.flags a.duration at) a next ∙ ap (along next) (rw (h.1, fields-cut form image at) at e))

-- one that is not is refused
pub record-short : (form : Form) (image : List ℕ) (at : ℕ) → length image < at + size_of form → record_at form image at ≡ Err (refusal Incomplete at)
unfolding record_at checked
record-short form image at h = simp (lt-leb _ _ h)
