-- Laws of the check of alarms of one form, and that the two forms make up all alarms. Assumes nothing.
use mathlib.Core.Path.{◌≡◌, refl, ap, ◌∙◌}
use mathlib.Core.List.{List}
use Prim.Native.Nat.{ℕ, zero, suc, ◌+◌, ◌-◌, ◌*◌, ◌≤◌, ◌<◌}
use native.Mathlib.Nat.{sub_self, zero-add, suc-add}
use native.Mathlib.Omega.{arith}
use borrow.Author.Tests.{lt-ltb, le-ltb}
use Rattle.settings.specs.Counts.{in_all}
use Rattle.settings.specs.declared.counts.Counts.{Counts}
use Rattle.settings.specs.declared.types.Form.{Form}
use Rattle.settings.specs.declared.types.Form.TheVariants.{Digital, Analog}
use Rattle.std.proofs.Common.{Result, Ok, Err}
use Rattle.settings.specs.Refusals.{and_then}
use Rattle.settings.specs.declared.refusals.Refusal.{Refusal}
use Rattle.scan_record.specs.Part.{entry_size}
use Rattle.scan_record.specs.Entry.{entry_at}
use Rattle.scan_record.specs.Check.{check_from}
use Rattle.scan_record.specs.Internal.Forms.{check_form}
use Rattle.scan_record.specs.declared.entry.Entry.{Entry}
use Rattle.scan_record.proofs.Entries.{entry_past}

module _ (form : Form) (rec : List ℕ) where
  one_left : {place end : ℕ} → place < end → end - place ≡ suc (end - (place + 1))
  one_left h = omega arith

  pub form-next : {place end : ℕ} (at : ℕ) {x : Entry} → place < end → entry_at form rec at (place + 1) ≡ Ok x
      → check_form form rec (end - place) place at ≡ check_form form rec (end - (place + 1)) (place + 1) x.next
  unfolding check_form
  form-next at h e = rw (one_left h, e)

  pub form-stop : {place end : ℕ} (at : ℕ) {r : Refusal} → place < end → entry_at form rec at (place + 1) ≡ Err r
      → check_form form rec (end - place) place at ≡ Err r
  unfolding check_form
  form-stop at h e = rw (one_left h, e)

  pub form-end : (place at : ℕ) → check_form form rec (place - place) place at ≡ Ok tt
  unfolding check_form
  form-end place at = rw sub_self

-- parts of one form: the first fits where all fit, and the others behind it
pub part-fits : (form : Form) (at : ℕ) {place end len : ℕ} → place < end → at + entry_size form * (end - place) ≤ len
    → at + entry_size form + entry_size form * (end - (place + 1)) ≤ len
part-fits Digital at h f = omega arith
part-fits Analog at h f = omega arith

-- the answer to alarms, and where it refuses none the answer to those behind them
abbrev pub or_else : Result (Unit {0}) Refusal → Result (Unit {0}) Refusal → Result (Unit {0}) Refusal
or_else r s = and_then r (λ _. s)

module _ (rec : List ℕ) (counts : Counts) where
  analog-left : (k place at : ℕ) → counts.digital ≤ place → check_from rec counts k place at ≡ check_form Analog rec k place at
  unfolding check_from check_form
  analog-left zero place at h = refl
  analog-left (suc k) place at h =
      rw (le-ltb place counts.digital h) (λ i. and_then (entry_at Analog rec at (place + 1)) (λ x. analog-left k (place + 1) x.next (omega arith) i))

  digital-first : (k n place at : ℕ) → place + k ≡ counts.digital
      → check_from rec counts (k + n) place at ≡ or_else (check_form Digital rec k place at) (check_form Analog rec n counts.digital (at + 5 * k))
  unfolding check_from check_form
  digital-first zero n place at h =
      let here : place ≡ counts.digital = omega arith in
      let same : at ≡ at + 5 * 0 = omega arith in
      rw (zero-add n) (analog-left n place at (omega arith) ∙ (λ i. check_form Analog rec n (here i) (same i)))
  digital-first (suc k) n place at h =
      rw (suc-add k n, lt-ltb place counts.digital (omega arith))
      (go (entry_at Digital rec at (place + 1)) refl (λ next. digital-first k n (place + 1) next (omega arith)))
    where
      go : (r : Result Entry Refusal) → entry_at Digital rec at (place + 1) ≡ r
          → ((next : ℕ) → check_from rec counts (k + n) (place + 1) next
          ≡ or_else (check_form Digital rec k (place + 1) next) (check_form Analog rec n counts.digital (next + 5 * k)))
          → and_then r (λ x. check_from rec counts (k + n) (place + 1) x.next)
          ≡ or_else (and_then r (λ x. check_form Digital rec k (place + 1) x.next)) (check_form Analog rec n counts.digital (at + 5 * suc k))
      go (Ok x) e rest =
          let past : x.next ≡ at + 5 = entry_past Digital rec at (place + 1) e in
          let end : x.next + 5 * k ≡ at + 5 * suc k = omega arith in
          rest x.next
          ∙ ap (λ (o : ℕ). or_else (check_form Digital rec k (place + 1) x.next) (check_form Analog rec n counts.digital o)) end
      go (Err r) e rest = refl

  -- the check of all alarms of a bank
  pub both-forms : check_from rec counts (in_all counts) 0 8
      ≡ or_else (check_form Digital rec counts.digital 0 8) (check_form Analog rec counts.analog counts.digital (8 + 5 * counts.digital))
  both-forms = digital-first counts.digital counts.analog 0 8 (omega arith)
