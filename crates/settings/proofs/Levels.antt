-- Laws of levels that an alarm may lack. Assumes nothing.
use mathlib.Core.Path.{◌≡◌, refl, sym}
use mathlib.Core.Bool.{Bool, true, false, not, ◌&&◌, ◌||◌, cond}
use Rattle.std.specs.Prelude.{ℕ, Float, Option}
use Rattle.std.specs.Bool.{then_some}
use Rattle.std.specs.Option.{option_map_or, option_or, option_zip}
use Rattle.std.specs.Float.{binary32}
use Rattle.std.specs.Float.Ieee.{lt, add, sub}
use Rattle.std.proofs.Math.Bool.{or_comm}
use Rattle.settings.specs.Condition.{on, HH, H, L, LL}
use Rattle.settings.specs.Numbers.{reals, real_limit}
use Rattle.settings.specs.Rules.{banded}
use Rattle.settings.specs.declared.types.Limits.{Limits}

-- what is asked of two levels counts where both are enabled
pub both : (p : Float × Float → Bool) (a b : Bool) (x y : Float)
    → option_map_or p (option_zip (then_some a x) (then_some b y)) true ≡ not (a && b) || p (x, y)
both p true true x y = refl
both p true false x y = refl
both p false b x y = refl

-- the first of a side's levels that is enabled
side : (a b : Bool) (x y : Float) → option_or (then_some a x) (then_some b y) ≡ then_some (b || a) (cond a x y)
side true true x y = refl
side true false x y = refl
side false true x y = refl
side false false x y = refl

-- the two inequalities, of a high and a low limit
abbrev far : Float → Float × Float → Bool
far d s = lt s.1 (sub binary32 s.0 d) && lt (add binary32 s.1 d) s.0

pub bands : (flags : ℕ) (g : Limits) (sides : Option (Float × Float))
    → option_zip (option_or (then_some (on flags H) g.h) (then_some (on flags HH) g.hh)) (option_or (then_some (on flags L) g.l) (then_some (on flags LL) g.ll))
    ≡ sides
    → option_map_or (far g.deadband) sides true ≡ banded reals flags (real_limit g) g.deadband
unfolding banded
bands flags g sides e = rw (sym e, side (on flags H), side (on flags L), both, or_comm (on flags LL) (on flags L))
