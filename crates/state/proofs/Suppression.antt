-- Command words that differ in suppression alone. Assumes nothing.
use mathlib.Core.Path.{◌≡◌, refl}
use mathlib.Core.Bool.{Bool, false, ◌||◌}
use Prim.Native.Nat.{ℕ}
use Rattle.wire.specs.Bits.{bit}
use lib.Dec.{eqb}
use Rattle.settings.specs.Condition.{Condition, In}
use Rattle.condition.specs.Command.{enables, disables, count_resets, resets, acks_all, acks, faults}
use Rattle.settings.specs.Condition as C

-- two words that command the same, but for suppression
pub record SameCommands (previous word word' : ℕ) : Type 0 where
  pub enabling : enables word ≡ enables word'
  pub disabling : disables word ≡ disables word'
  pub count-reset : count_resets word previous ≡ count_resets word' previous
  pub reset : resets word previous ≡ resets word' previous
  pub ack-all : acks_all word previous ≡ acks_all word' previous
  pub ack : (c : Condition) → acks word previous c ≡ acks word' previous c
  pub fault : faults word ≡ faults word'

-- the bits of suppression
abbrev pub suppression : ℕ → Bool
suppression k = eqb k 4 || eqb k 5 || eqb k 11 || eqb k 12

-- words that agree in every other bit are such words
pub same-commands : (previous word word' : ℕ) → ((k : ℕ) → suppression k ≡ false → bit word k ≡ bit word' k) → SameCommands previous word word'
unfolding acks
same-commands previous word word' h =
    record {
      enabling = rw (h 3 refl, h 10 refl);
      disabling = rw (h 2 refl, h 9 refl);
      count-reset = rw (h 6 refl);
      reset = rw (h 1 refl, h 8 refl);
      ack-all = rw (h 0 refl, h 7 refl);
      ack = ack;
      fault = h 25 refl;
    }
  where
    ack : (c : Condition) → acks word previous c ≡ acks word' previous c
    ack In = rw (h 0 refl, h 7 refl)
    ack C.HH = rw (h 0 refl, h 7 refl, h 13 refl, h 19 refl)
    ack C.H = rw (h 0 refl, h 7 refl, h 14 refl, h 20 refl)
    ack C.L = rw (h 0 refl, h 7 refl, h 15 refl, h 21 refl)
    ack C.LL = rw (h 0 refl, h 7 refl, h 16 refl, h 22 refl)
    ack C.ROCPos = rw (h 0 refl, h 7 refl, h 17 refl, h 23 refl)
    ack C.ROCNeg = rw (h 0 refl, h 7 refl, h 18 refl, h 24 refl)
