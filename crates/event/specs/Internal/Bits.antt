-- The events of an event word, and the head of a record.
use Rattle.std.specs.Prelude.{ℕ, zero, suc, ◌+◌, ◌*◌, ◌/◌, ◌%◌, Bool, cond, List, [], ◌∷◌, eqb}
use Rattle.settings.specs.declared.types.Kind.{Kind}
use Rattle.settings.specs.declared.types.Form.{Form}
use Rattle.settings.specs.declared.types.Form.TheVariants.{Digital as DigitalForm, Analog as AnalogForm}
use Rattle.event.specs.Event.{Event}
use Rattle.event.specs.Internal.Events.{event_at}

-- an event for each bit of a word that is set, of n bits from bit k on
unfoldable pub events_of : ℕ → Kind → Bool → ℕ → ℕ → ℕ → ℕ → List Event
events_of alarm kind suppressed time zero k word = []
events_of alarm kind suppressed time (suc n) k word =
    cond (eqb (word % 2) 1)
    (event_at alarm kind suppressed time k ∷ events_of alarm kind suppressed time n (suc k) (word / 2))
    (events_of alarm kind suppressed time n (suc k) (word / 2))

-- the number of the condition at a place, as an event has it
abbrev pub condition_of : Form → ℕ → ℕ
condition_of DigitalForm place = 0
condition_of AnalogForm place = 1 + place

-- the eight bytes in front of an event's time, as one number
abbrev pub head_of : ℕ → ℕ → ℕ → Bool → ℕ → ℕ
head_of alarm condition kind suppressed severity =
    alarm + 256 * condition + 65536 * kind + 16777216 * cond suppressed 1 0 + 4294967296 * severity
