-- The words of the rate sample. Assumes nothing.
use mathlib.Core.Path.{◌≡◌, refl, ◌∙◌, sym}
use mathlib.Core.Bool.{Bool, true, false, not, ◌&&◌, cond}
use mathlib.Core.List.{List, [], ◌∷◌}
use Prim.Native.Nat.{ℕ, ◌+◌, suc}
use lib.ListN.{get_or}
use Rattle.wire.specs.Bits.{bit}
use native.Mathlib.Omega.{arith}
use Rattle.settings.specs.Numbers.{thousand, period_real, new_rate}
use lib.Dec.{T, eqb}
use lib.Ieee.{Float, binary32, fits, to_bits, of_bits, sub, mul, div, is_nan}
use lib.Ieee.Bits.{of_bits-fits, of_bits-to_bits, to_bits-of_bits}
use lib.Seq.{sets}
use Rattle.layout.specs.Internal.Words.{lower_of, upper_of}
use lib.Ieee.Fits.{cond-fits, div-fits}
use Rattle.wire.specs.Real.{zero_real}
use Rattle.wire.proofs.Laws.{and-true}
use Rattle.sample.specs.Internal.Sample.{stays_in, rate_in, sample_in, sampled_in}
use Rattle.layout.proofs.Stay.{pair-back}

zero_pattern : to_bits binary32 zero_real ≡ 0
unfolding of_bits is_nan
zero_pattern = to_bits-of_bits binary32 0 (omega arith) tt

pub rate-is : (enabled held due : Bool) (p : ℕ) (new old : Float)
    → cond (enabled && (held && not due)) p (cond (enabled && held) (to_bits binary32 new) 0)
    ≡ cond (enabled && (held && not due)) p (to_bits binary32 (cond (enabled && held) (cond due new old) zero_real))
rate-is true true true p new old = refl
rate-is true true false p new old = refl
rate-is true false due p new old = sym zero_pattern
rate-is false held due p new old = sym zero_pattern

pub value-is : (stays : Bool) (p : ℕ) (x : Float)
    → cond stays p (to_bits binary32 x) ≡ cond stays p (to_bits binary32 (cond stays (of_bits binary32 p) x))
value-is true p x = refl
value-is false p x = refl

module _ (pair sampled flags period time : ℕ) (enabled : Bool) (x : Float) {stays : Bool} (e : stays ≡ stays_in flags period sampled time) where
  abbrev rate : ℕ
  rate = rate_in flags enabled period pair sampled x time

  -- a sample that stays in an enabled scan is stored as it is
  pub sample-stays : enabled && stays ≡ true
      → (pair ≡ sample_in flags enabled period pair sampled x time) × (upper_of pair ≡ rate) × (sampled ≡ sampled_in flags period sampled time)
  unfolding rate_in
  sample-stays h =
      let on = and-true enabled stays h in
      let kept : upper_of pair ≡ rate = rw (← e, on.0, on.1) in (
        rw (← e, on.0, on.1, pair-back pair),
        kept,
        rw (← e, on.1),
      )

  -- otherwise the rate is a new one
  pub rate-changes : enabled && stays ≡ false
      → cond (enabled && bit flags 3) (to_bits binary32 (new_rate period (of_bits binary32 (lower_of pair)) x)) 0 ≡ rate
  unfolding rate_in
  rate-changes h = rw (← e, h)

-- ---- what a pattern stands for

pub rate-fits : (period : ℕ) (stored x : Float) → T (fits binary32 (new_rate period stored x))
unfolding new_rate
rate-fits period stored x =
    cond-fits binary32 (eqb period 0) zero_real (div binary32 (mul binary32 (sub binary32 x stored) thousand) (period_real period)) (of_bits-fits binary32 0)
    (div-fits binary32 (mul binary32 (sub binary32 x stored) thousand) (period_real period))

-- a pattern that stays, or that of a REAL, stands for it
pub value-back : (stays : Bool) (p : ℕ) (x : Float) → T (fits binary32 x)
    → of_bits binary32 (cond stays p (to_bits binary32 (cond stays (of_bits binary32 p) x))) ≡ cond stays (of_bits binary32 p) x
value-back true p x h = refl
value-back false p x h = of_bits-to_bits binary32 x h

pub rate-back : (enabled held due : Bool) (p : ℕ) (x : Float) → T (fits binary32 x)
    → of_bits binary32 (cond (enabled && (held && not due)) p (to_bits binary32 (cond (enabled && held) (cond due x (of_bits binary32 p)) zero_real)))
    ≡ cond (enabled && held) (cond due x (of_bits binary32 p)) zero_real
rate-back true true true p x h = of_bits-to_bits binary32 x h
rate-back true true false p x h = refl
rate-back true false due p x h = of_bits-to_bits binary32 zero_real (of_bits-fits binary32 0)
rate-back false held due p x h = of_bits-to_bits binary32 zero_real (of_bits-fits binary32 0)
