-- What is known of a record that was read: it is there whole, which alarm it is, where it ends, and that its checks hold. Assumes nothing.
use mathlib.Core.Path.{◌≡◌, refl, sym, ap}
use mathlib.Core.List.{List, [], ◌∷◌}
use mathlib.Core.Bool.{Bool, true, false, cond}
use Prim.Native.Nat.{ℕ, ◌+◌, ◌≤◌}
use native.Mathlib.Omega.{arith}
use borrow.Author.Tests.{leb-true}
use lib.Dec.{leb}
use lib.ListN.{length}
use Rattle.settings.specs.Refusals.{checked, refusal}
use Rattle.settings.specs.declared.types.Alarm.{Alarm}
use Rattle.settings.specs.declared.types.Form.{Form}
use Rattle.std.proofs.Common.{Ok, Err}
use Rattle.settings.specs.declared.refusals.Refusal.{Refusal}
use Rattle.settings.specs.declared.refusals.Reason.TheVariants.{Incomplete}
use Rattle.settings_record.specs.Record.{size_of, fields_at, checks_of, record_at}

-- each test of a row holds
abbrev pub Passed : List (Refusal × Bool) → Type 0
Passed [] = Unit {0}
Passed (c ∷ rest) = (c.1 ≡ true) × Passed rest

-- where checks let what was read stand, each holds
pub all-passed : {A : Type 0} (row : List (Refusal × Bool)) (x : A) {y : A} → checked row x ≡ Ok y → Passed row × (x ≡ y)
unfolding checked
all-passed [] x e = (tt, cc)
all-passed {A} (c ∷ rest) x {y} e = go c.1 refl (all-passed rest x) e
  where
    go : (b : Bool) → c.1 ≡ b → (checked rest x ≡ Ok y → Passed rest × (x ≡ y))
        → cond b (checked rest x) (Err c.0) ≡ Ok y → ((c.1 ≡ true) × Passed rest) × (x ≡ y)
    go true f ih e = let p = ih e in ((f, p.0), p.1)
    go false f ih e = let z : ◌≡◌ {A = ℕ} 0 1 = cc in absurd (omega arith)

pub record WasRead (form : Form) (image : List ℕ) (at : ℕ) (a : Alarm) (next : ℕ) : Type 0 where
  pub whole : at + size_of form ≤ length image
  pub alarm : fields_at form image at ≡ a
  pub past : next ≡ at + size_of form
  pub passed : Passed (checks_of (fields_at form image at).kind (fields_at form image at).flags (fields_at form image at).duration at)

pub was_read : (form : Form) (image : List ℕ) (at : ℕ) {a : Alarm} {next : ℕ} → record_at form image at ≡ Ok (a, next) → WasRead form image at a next
unfolding record_at
was_read form image at {a} {next} e =
    let x = fields_at form image at in
    let row = checks_of x.kind x.flags x.duration at in
    let p = all-passed ((refusal Incomplete at, leb (at + size_of form) (length image)) ∷ row) (x, at + size_of form) e in
    let a≡ : x ≡ a = ap (λ (r : Alarm × ℕ). r.0) p.1 in
    let n≡ : next ≡ at + size_of form = sym (ap (λ (r : Alarm × ℕ). r.1) p.1) in
    record { whole = leb-true _ _ p.0.0; alarm = a≡; past = n≡; passed = p.0.1 }
