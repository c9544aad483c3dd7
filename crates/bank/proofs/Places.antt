-- What the words of a bank say place by place. Assumes nothing.
use mathlib.Core.Logic.{◌≢◌}
use mathlib.Core.Path.{◌≡◌, refl}
use mathlib.Core.Bool.{Bool, true, false, cond}
use Prim.Native.Nat.{ℕ, ◌≤◌, ◌<◌}
use native.Mathlib.Omega.{arith}
use borrow.Author.Tests.{eqb-true, eq-eqb, ne_eqb}
use lib.Dec.{eqb}
use lib.ListN.{length, get_or, replicate, length-replicate}
use Rattle.layout.proofs.Laws.{placed_below}
use Rattle.wire.proofs.Laws.{and-true}
use Rattle.settings.specs.Alarm.{blank, blanks}
use Rattle.layout.specs.Internal.Block.{no_bank, state_at}
use Rattle.std.proofs.Common.{Ok, Err}
use Rattle.settings.specs.declared.refusals.Refusal.{Refusal}
use Rattle.layout.specs.Internal.Block.{layout_word, count_in, alarm_on, settings_in, is_block}
use Rattle.state.specs.Internal.Held.{fresh_state}
use Rattle.state.specs.Internal.State.{state_in}
use Rattle.bank.specs.Lent.{Words}
use Rattle.bank.specs.Internal.Words.{fit_of, bank_in}

-- ---- the bank that words stand for

-- the alarm at a place
pub alarm-there : (w : Words) (place : ℕ) → count_in w.settings ≤ 24 → place < count_in w.settings
    → get_or (bank_in w).settings.alarms place blank ≡ alarm_on w.settings place
unfolding bank_in settings_in blanks
alarm-there w place m h =
    placed_below (alarm_on w.settings) (count_in w.settings) place (replicate 24 blank) blank h (omega (arith, length-replicate 24 blank))

-- and its state
pub state-there : (w : Words) (place : ℕ) → place < 24 → get_or (bank_in w).states place fresh_state ≡ state_in w.states (state_at place)
unfolding bank_in
state-there w place h =
    placed_below (λ p. state_in w.states (state_at p)) 24 place (replicate 24 fresh_state) fresh_state h (omega (arith, length-replicate 24 fresh_state))

-- ---- blocks that hold a bank

pub record Fits (w : Words) : Type 0 where
  pub settings-long : length w.settings ≡ 292
  pub layout : get_or w.settings 0 0 ≡ layout_word
  pub states-long : length w.states ≡ 580
  pub marks-long : length w.marks ≡ 900

-- tests that all passed
passed : (p q t : Bool) (x y z : Refusal) → cond p (cond q (cond t (Ok (tt {0})) (Err z)) (Err y)) (Err x) ≡ Ok tt
    → (p ≡ true) × (q ≡ true) × (t ≡ true)
passed true true true x y z e = (refl, refl, refl)
passed true true false x y z e = let n : ◌≡◌ {A = ℕ} 0 1 = cc in absurd (omega arith)
passed true false t x y z e = let n : ◌≡◌ {A = ℕ} 0 1 = cc in absurd (omega arith)
passed false q t x y z e = let n : ◌≡◌ {A = ℕ} 0 1 = cc in absurd (omega arith)

pub fit-says : (w : Words) → fit_of w ≡ Ok tt → Fits w
unfolding fit_of
fit-says w e =
    let t = passed (is_block w.settings) (eqb (length w.states) 580) (eqb (length w.marks) 900) (no_bank 0) (no_bank 1) (no_bank 2) e in
    let b = and-true (eqb (length w.settings) 292) (eqb (get_or w.settings 0 0) layout_word) t.0 in
    record {
      settings-long = eqb-true _ _ b.0;
      layout = eqb-true _ _ b.1;
      states-long = eqb-true _ _ t.1;
      marks-long = eqb-true _ _ t.2;
    }

-- what the tests of the three blocks lead to
module _ (w : Words) where
  pub no-settings : is_block w.settings ≡ false → Err (no_bank 0) ≡ fit_of w
  unfolding fit_of
  no-settings s = rw s

  pub no-states : is_block w.settings ≡ true → length w.states ≢ 580 → Err (no_bank 1) ≡ fit_of w
  unfolding fit_of
  no-states s t = rw (s, ne_eqb _ _ t)

  pub no-marks : is_block w.settings ≡ true → length w.states ≡ 580 → length w.marks ≢ 900 → Err (no_bank 2) ≡ fit_of w
  unfolding fit_of
  no-marks s t m = rw (s, eq-eqb _ _ t, ne_eqb _ _ m)

  pub blocks-fit : is_block w.settings ≡ true → length w.states ≡ 580 → length w.marks ≡ 900 → Ok tt ≡ fit_of w
  unfolding fit_of
  blocks-fit s t m = rw (s, eq-eqb _ _ t, eq-eqb _ _ m)
