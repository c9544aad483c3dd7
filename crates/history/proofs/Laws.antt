-- Laws of the step for later layers: due is not cleared, what a disabled alarm keeps, how far a count goes. Assumes nothing.
use Prim.Native.Nat.{ℕ, ◌≤◌}
use mathlib.Core.Path.{◌≡◌, refl, ◌∙◌}
use mathlib.Core.List.{List}
use mathlib.Core.Bool.{Bool, true, false, not, ◌&&◌, ◌||◌, cond, and-false, and-eq-true_iff}
use native.Mathlib.Omega.{arith}
use Rattle.history.specs.Past.{Fact}
use Rattle.history.specs.Demand.{Facts, due_given}
use Rattle.history.specs.Internal.Condition.{Told, Kept, acknowledges, returns, activates, kept_after, Frees, kept}
use Rattle.history.proofs.Condition.{kept-count}

-- ---- due is not cleared, and how far a count goes

-- what is due is met
met_of : (enabled met rest : Bool) → (enabled && met && rest) ≡ true → met ≡ true
met_of true true rest h = refl
met_of true false rest h = h
met_of false met rest h = let z : ◌≡◌ {A = ℕ} 0 1 = cc in absurd (omega arith)

pub due-not-cleared : (t : Told) (alarm : Bool) → activates t alarm ≡ true → returns t alarm ≡ false
due-not-cleared t alarm h =
    let m = met_of t.enabled t.met t.ready ((and-eq-true_iff (t.enabled && t.met && t.ready) (not alarm)).0 h).0 in
    rw m (and-false (t.enabled && alarm))

module _ {S C : Type 0} (f : Facts S C) (frees : C → Fact S) (clear : Frees f frees) where
  pub facts-due-not-cleared : (before : C → Bool) (c : C) (s : S) (past : List S) → due_given f before c s past ≡ true → f.cleared c s past ≡ false
  facts-due-not-cleared before c s past h =
      clear c s past ∙ rw (met_of (f.enabled s past) (f.met c s past) (f.lasted c s past || (f.beside c before || f.rate c)) h)

  pub kept-most : (scans : List S) (c : C) → (kept f frees scans c).count ≤ 2147483647
  kept-most scans c = omega (arith, kept-count f frees clear scans c)

-- ---- a disabled alarm

module _ (t : Told) (h : t.enabled ≡ false) where
  -- it leaves alarm and is no longer unacknowledged; only a reset changes its count
  pub disabled : (k : Kept) (reset : Bool) → kept_after t reset k ≡ record { alarm = false; unacked = false; count = cond reset 0 k.count }
  disabled k reset = rw h

  pub disabled-acknowledges : (unacked : Bool) → acknowledges t unacked ≡ false
  disabled-acknowledges unacked = rw h

  pub disabled-returns : (alarm : Bool) → returns t alarm ≡ false
  disabled-returns alarm = rw h

  pub disabled-activates : (alarm : Bool) → activates t alarm ≡ false
  disabled-activates alarm = rw h
