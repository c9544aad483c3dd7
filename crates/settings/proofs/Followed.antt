-- Laws of answers that may be refusals. Assumes nothing.
use mathlib.Core.Path.{◌≡◌, refl}
use mathlib.Core.Bool.{Bool, true, false, cond, false≢true}
use Prim.Native.Nat.{ℕ}
use native.Mathlib.Omega.{arith}
use Rattle.std.proofs.Common.{Result, Ok, Err}
use Rattle.std.specs.Result.{is_ok, result_unwrap_or}
use Rattle.settings.specs.Refusals.{and_then}
use Rattle.settings.specs.declared.refusals.Refusal.{Refusal}

pub ok-same : {A : Type 0} {x y : A} → ◌≡◌ {A = Result A Refusal} (Ok x) (Ok y) → x ≡ y
ok-same e = cc

-- nothing was refused: what came first, and what followed
pub record Followed {A B : Type 0} (r : Result A Refusal) (f : A → Result B Refusal) (b : B) : Type 0 where
  pub value : A
  pub was : r ≡ Ok value
  pub follows : f value ≡ Ok b

pub and-then-ok : {A B : Type 0} (r : Result A Refusal) (f : A → Result B Refusal) {b : B} → and_then r f ≡ Ok b → Followed r f b
and-then-ok (Ok a) f e = record { value = a; was = refl; follows = e }
and-then-ok (Err x) f e = let z : ◌≡◌ {A = ℕ} 0 1 = cc in absurd (omega arith)

-- a test that would have refused failed
pub spared : {A : Type 0} (t : Bool) (r : Refusal) (x : A) {y : A} → cond t (Err r) (Ok x) ≡ Ok y → (t ≡ false) × (x ≡ y)
spared true r x e = let z : ◌≡◌ {A = ℕ} 0 1 = cc in absurd (omega arith)
spared false r x e = (refl, ok-same e)

-- what was not refused is the value
pub was-ok : {A : Type 0} (r : Result A Refusal) (d : A) → is_ok r ≡ true → r ≡ Ok (result_unwrap_or r d)
was-ok (Ok x) d e = refl
was-ok (Err r) d e = absurd (false≢true e)
