-- How many events a scan has, of the whole alarm and of a condition. Assumes nothing.
use mathlib.Core.Path.{◌≡◌, refl}
use mathlib.Core.Bool.{Bool, true, false, not, ◌&&◌, cond}
use mathlib.Core.List.{List, ◌++◌, [], ◌∷◌}
use Prim.Native.Nat.{ℕ, ◌+◌, ◌≤◌}
use Rattle.wire.specs.Internal.Words.{how_many}
use native.Mathlib.Omega.{arith}
use Rattle.condition.specs.Internal.Mode.{disabled_after, suppressed_after, whole_events}
use Rattle.history.specs.Internal.Condition.{Told, acknowledges, returns, activates}
use Rattle.condition.specs.Command.{count_resets}

pub one : (b : Bool) → cond b 1 0 ≤ 1
one true = omega arith
one false = omega arith

-- an event of a mode, or the one that ends it
mode-most : (after before : Bool) → cond (after && not before) 1 0 + cond (not after && before) 1 0 ≤ 1
mode-most true before = omega (arith, one (not before))
mode-most false before = omega (arith, one before)

-- of the whole alarm at most three: disabled or enabled, suppressed or unsuppressed, count reset
pub whole-most : (disabled suppressed : Bool) (word previous : ℕ) (rest : List Bool)
    → how_many (whole_events disabled suppressed word previous ++ rest) ≤ 3 + how_many rest
unfolding how_many
whole-most disabled suppressed word previous rest =
    omega (
      arith,
      mode-most (disabled_after word disabled) disabled,
      mode-most (suppressed_after word suppressed) suppressed,
      one (count_resets word previous),
    )

-- a return and an activation exclude each other
turn-most : (enabled met frees ready alarm : Bool) → cond (enabled && alarm && (not met && frees)) 1 0 + cond (enabled && met && ready && not alarm) 1 0 ≤ 1
turn-most true true frees ready true = omega (arith, one (ready && false))
turn-most true true frees ready false = omega (arith, one (ready && true))
turn-most true false frees ready alarm = omega (arith, one (alarm && frees))
turn-most false met frees ready alarm = omega arith

-- of a condition at most two: acknowledged, and returned or activated
pub condition-most : (t : Told) (alarm unacked : Bool) (rest : List Bool)
    → how_many (acknowledges t unacked ∷ returns t alarm ∷ activates t alarm ∷ rest) ≤ 2 + how_many rest
unfolding how_many
condition-most t alarm unacked rest = omega (arith, one (acknowledges t unacked), turn-most t.enabled t.met t.frees t.ready alarm)

pub no_bits : how_many [] ≡ 0
unfolding how_many
no_bits = refl
