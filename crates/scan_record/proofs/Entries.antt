-- Laws of a record's parts: where they end, and the walk through them. Assumes nothing.
use mathlib.Core.Path.{◌≡◌, refl, sym, ap, ◌∙◌}
use mathlib.Core.List.{List, [], ◌∷◌}
use mathlib.Core.Bool.{Bool, true, false, ◌&&◌, cond}
use Prim.Native.Nat.{ℕ, zero, suc, ◌+◌, ◌≤◌, ◌<◌}
use native.Mathlib.Omega.{arith}
use borrow.Author.Tests.{ltb-true, ltb-false, eqb-true}
use lib.Dec.{ltb, eqb}
use lib.ListN.{length}
use Rattle.wire.proofs.Laws.{and-true}
use Rattle.settings.proofs.Few.{few}
use Rattle.wire.specs.Bits.{sets_only}
use Rattle.settings.specs.Refusals.{checked, refusal}
use Rattle.settings.specs.declared.types.Form.{Form}
use Rattle.settings.specs.declared.types.Form.TheVariants.{Digital, Analog}
use Rattle.std.proofs.Common.{Result, Ok, Err}
use Rattle.settings.specs.declared.refusals.Refusal.{Refusal}
use Rattle.settings.specs.declared.refusals.Reason.TheVariants.{UnknownCommand, WrongLength, EarlierTime}
use Rattle.scan_record.specs.Entry.{bits_of, reading_check, entry_in, entry_at}
use Rattle.scan_record.specs.Part.{record_size, time_of, offset_of, word_at, entry_size}
use Rattle.settings.specs.Counts.{are_good, in_all, form_at}
use Rattle.settings.specs.Internal.Few.{Few}
use Rattle.settings.specs.declared.counts.Counts.{Counts}
use Rattle.scan_record.specs.Check.{check_from, check_record}
use Rattle.scan_record.specs.declared.entry.Entry.{Entry}

-- checks that let what was read stand
stands : {A : Type 0} (row : List (Refusal × Bool)) (x : A) {y : A} → checked row x ≡ Ok y → x ≡ y
unfolding checked
stands [] x e = cc
stands {A} (c ∷ rest) x {y} e = go c.1 (stands rest x) e
  where
    go : (b : Bool) → (checked rest x ≡ Ok y → x ≡ y) → cond b (checked rest x) (Err c.0) ≡ Ok y → x ≡ y
    go true ih e = ih e
    go false ih e = let z : ◌≡◌ {A = ℕ} 0 1 = cc in absurd (omega arith)

-- a part that was read is what stands there, and ends past its bytes
pub entry_read : (form : Form) (bytes : List ℕ) (at alarm : ℕ) {x : Entry} → entry_at form bytes at alarm ≡ Ok x → entry_in form bytes at ≡ x
unfolding entry_at
entry_read form bytes at alarm e =
    stands (reading_check form bytes at alarm ∷ (refusal UnknownCommand alarm, sets_only (bits_of form) 32 (word_at form bytes at)) ∷ [])
    (entry_in form bytes at) e

pub entry_past : (form : Form) (bytes : List ℕ) (at alarm : ℕ) {x : Entry} → entry_at form bytes at alarm ≡ Ok x → x.next ≡ at + entry_size form
entry_past form bytes at alarm e = sym (ap (λ (x : Entry). x.next) (entry_read form bytes at alarm e))

pub offset-next : (counts : Counts) (place : ℕ) → offset_of counts place + entry_size (form_at counts place) ≡ offset_of counts (place + 1)
offset-next counts place = go (ltb place counts.digital) refl
  where
    go : (t : Bool) → ltb place counts.digital ≡ t → offset_of counts place + entry_size (cond t Digital Analog) ≡ offset_of counts (place + 1)
    go true e = omega (arith, ltb-true place counts.digital e)
    go false e = omega (arith, ltb-false place counts.digital e)

module _ (bytes : List ℕ) (counts : Counts) where
  -- the part of the alarm at a place, read
  abbrev pub PartRead : ℕ → Type 0
  PartRead p =
      let form = form_at counts p in
      let at = offset_of counts p in
      entry_at form bytes at (p + 1) ≡ Ok (entry_in form bytes at)

  -- in a record that passed, each part is read
  pub all_read : (k place at : ℕ) → at ≡ offset_of counts place → check_from bytes counts k place at ≡ Ok tt
      → (p : ℕ) → place ≤ p → p < place + k → PartRead p
  unfolding check_from
  all_read zero place at o e p l h = absurd (omega arith)
  all_read (suc k) place at o e p l h =
      go (entry_at (form_at counts place) bytes at (place + 1)) refl (λ next n c m. all_read k (place + 1) next n c p m (omega arith))
    where
      here-or-later : PartRead place → (place + 1 ≤ p → PartRead p) → (t : Bool) → ltb place p ≡ t → PartRead p
      here-or-later here later true q = later (omega (arith, ltb-true place p q))
      here-or-later here later false q = let same : place ≡ p = omega (arith, ltb-false place p q) in rw same at here

      go : (r : Result Entry Refusal) → entry_at (form_at counts place) bytes at (place + 1) ≡ r
          → ((next : ℕ) → next ≡ offset_of counts (place + 1) → check_from bytes counts k (place + 1) next ≡ Ok tt → place + 1 ≤ p → PartRead p) → PartRead p
      go (Ok x) r later =
          let whole = entry_read (form_at counts place) bytes at (place + 1) r in
          let n : x.next ≡ offset_of counts (place + 1) = entry_past (form_at counts place) bytes at (place + 1) r ∙ rw o (offset-next counts place) in
          here-or-later (rw o at (r ∙ ap Ok (sym whole))) (later x.next n (rw r at e)) (ltb place p) refl
      go (Err x) r later = let f = rw r at e in let z : ◌≡◌ {A = ℕ} 0 1 = cc in absurd (omega arith)

-- what a record of the right length says of the numbers of alarms
pub record Whole (counts : Counts) (len : ℕ) : Type 0 where
  pub most : Few counts
  pub size : len ≡ record_size counts

pub whole_says : (counts : Counts) (len : ℕ) → are_good counts && eqb len (record_size counts) ≡ true → Whole counts len
whole_says counts len h =
    let both = and-true (are_good counts) (eqb len (record_size counts)) h in
    record { most = few counts refl both.0; size = eqb-true len (record_size counts) both.1 }

-- tests that all let a record pass
passed : (p q : Bool) (r r' : Refusal) (x : Result (Unit {0}) Refusal) → cond p (cond q (Err r) x) (Err r') ≡ Ok tt → (p ≡ true) × (q ≡ false) × (x ≡ Ok tt)
passed true true r r' x e = let z : ◌≡◌ {A = ℕ} 0 1 = cc in absurd (omega arith)
passed true false r r' x e = (refl, refl, e)
passed false q r r' x e = let z : ◌≡◌ {A = ℕ} 0 1 = cc in absurd (omega arith)

-- what an accepted record says: its length, its time, and that each alarm's part passed
pub accepted-says : (counts : Counts) (last : ℕ) (rec : List ℕ) → check_record counts last rec ≡ Ok tt
    → Whole counts (length rec) × (last ≤ time_of rec) × (check_from rec counts (in_all counts) 0 8 ≡ Ok tt)
unfolding check_record
accepted-says counts last rec e =
    let t = passed (are_good counts && eqb (length rec) (record_size counts)) (ltb (time_of rec) last) (refusal EarlierTime 0) (refusal WrongLength 0)
    (check_from rec counts (in_all counts) 0 8) e in
    (whole_says counts (length rec) t.0, ltb-false (time_of rec) last t.1, t.2)
