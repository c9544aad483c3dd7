-- Laws of a digital alarm's step: how many events a scan has, what a disabled alarm keeps and writes, and what suppression changes. Assumes
-- nothing.
use mathlib.Core.Path.{◌≡◌, refl}
use mathlib.Core.Bool.{Bool, true, false}
use mathlib.Core.List.{List, [], ◌∷◌}
use Prim.Native.Nat.{ℕ, ◌≤◌}
use lib.ListN.{take, drop}
use Rattle.wire.specs.Internal.Words.{how_many}
use Rattle.wire.specs.Internal.Places.{first_condition}
use native.Mathlib.Omega.{arith}
use Rattle.settings.specs.declared.types.Alarm.{Alarm}
use Rattle.settings.specs.declared.types.Reading.{Reading}
use Rattle.condition.specs.Internal.Mode.{disabled_after, suppressed_after}
use Rattle.history.specs.Internal.Condition.{Told, acknowledges, returns, activates}
use Rattle.state.specs.Internal.State.{State}
use Rattle.state.specs.Internal.Held.{DigitalHeld, look_digital, digital_flags}
use Rattle.digital.specs.Internal.Digital.{digital_told, digital_after, digital_events, digital_step}
use Rattle.state.proofs.Back.{Small, flags-small}
use Rattle.state.proofs.Most.{whole-most, condition-most, no_bits}
use Rattle.state.proofs.Suppression.{SameCommands}

module _ (a : Alarm) (x : Reading) (word time : ℕ) (d : DigitalHeld) where
  pub digital-most : how_many (digital_events a x word time d) ≤ 5
  digital-most =
      let t : Told = digital_told a x word time d in
      let three : List Bool = acknowledges t d.cell.unacked ∷ returns t d.cell.alarm ∷ activates t d.cell.alarm ∷ [] in
      omega (arith, whole-most d.disabled d.suppressed word d.previous three, condition-most t d.cell.alarm d.cell.unacked [], no_bits)

  -- ---- a disabled alarm

  pub no-events-digital : disabled_after word d.disabled ≡ true
      → (drop first_condition (digital_events a x word time d) ≡ false ∷ false ∷ false ∷ [])
      × ((digital_after a x word time d).cell.alarm ≡ false)
      × ((digital_after a x word time d).cell.unacked ≡ false)
      × ((digital_after a x word time d).cell.row ≡ false)
  no-events-digital h = rw h (refl, refl, refl, refl)

-- ---- suppression

module _ (a : Alarm) (x : Reading) (word word' time : ℕ) (d : DigitalHeld) (e : SameCommands d.previous word word') where
  -- suppression changes only whether the alarm is suppressed
  pub suppress-only-digital : digital_after a x word' time d
      ≡ record {
        disabled = (digital_after a x word time d).disabled;
        suppressed = suppressed_after word' d.suppressed;
        faulted = (digital_after a x word time d).faulted;
        previous = word';
        cell = (digital_after a x word time d).cell;
      }
  suppress-only-digital = rw (e.enabling, e.disabling, e.reset, e.ack-all, e.fault)

  -- and, of the events, only the third and the fourth, suppressed and unsuppressed
  pub suppress-events-digital : (take 2 (digital_events a x word' time d) ≡ take 2 (digital_events a x word time d))
      × (drop 4 (digital_events a x word' time d) ≡ drop 4 (digital_events a x word time d))
  suppress-events-digital = rw (e.enabling, e.disabling, e.count-reset, e.reset, e.ack-all) (refl, refl)

-- ---- the halves of its words have 32 bits

pub small-digital : (s : State) (x : Reading) (word time : ℕ) → Small s → (a : Alarm) → Small (digital_step a s x word time).state
unfolding digital_step
small-digital s x word time m a =
    record { flags = flags-small (digital_flags (digital_after a x word time (look_digital s))) (omega arith); sample = m.sample }
