-- The event at a bit of an event word, as a record whose head is that of the first of its group and its kind. Assumes nothing.
use mathlib.Core.Path.{◌≡◌, refl}
use mathlib.Core.List.{List, ◌++◌}
use Prim.Native.Nat.{ℕ, ◌+◌, ◌*◌, ◌-◌, ◌/◌, ◌%◌, ◌≤◌, ◌<◌}
use native.Mathlib.Omega.{arith}
use borrow.Author.Tests.{lt-ltb, le-ltb}
use Rattle.wire.specs.Number.{bytes}
use Rattle.wire.specs.Internal.Places.{first_condition, word_bits}
use Rattle.settings.specs.declared.types.Form.{Form}
use Rattle.settings.specs.declared.types.Form.TheVariants.{Digital as DigitalForm, Analog as AnalogForm}
use Rattle.layout.specs.Internal.Words.{kind_in}
use Rattle.settings.specs.Severity.{acting}
use Rattle.event.specs.Event.{event_bytes}
use Rattle.event.specs.Internal.Events.{own_condition, stored_severity}
use Rattle.event.specs.Internal.Bits.{condition_of, head_of}
use Rattle.event.specs.Internal.Source.{source_event}
use Rattle.event.specs.declared.source.Source.{Source}
use Rattle.event.proofs.Stores.{event-bytes}

-- the condition of a bit, by the form
own-condition : (form : Form) (ws : List ℕ) (from place j : ℕ) → (j - first_condition) / 3 ≡ place
    → own_condition (kind_in form ws from) j ≡ condition_of form place
own-condition DigitalForm ws from place j e = refl
own-condition AnalogForm ws from place j e = rw e

small-condition : (form : Form) (place : ℕ) → place < 6 → condition_of form place < 7
small-condition DigitalForm place h = omega arith
small-condition AnalogForm place h = omega arith

module _ (s : Source) (bit : ℕ) where
  -- a bit of the whole alarm, from what the code has at hand
  pub whole-bit : {first i : ℕ} → bit < first_condition → i ≡ bit → first ≡ head_of s.number 7 1 s.suppressed 0
      → event_bytes (source_event s bit) ≡ bytes 8 (first + 65536 * i) ++ bytes 8 s.time
  whole-bit {first} {i} h q e =
      let w : first + 65536 * i ≡ head_of s.number 7 (bit + 1) s.suppressed 0 = omega arith in
      rw (lt-ltb bit first_condition h, w)
      (event-bytes (record { alarm = s.number; condition = 7; kind = bit + 1; suppressed = s.suppressed; severity = 0; time = s.time }) s.small (omega arith)
      (omega arith) (omega arith))

  abbrev place : ℕ
  place = (bit - first_condition) / 3

  -- a bit of the condition at a place
  pub condition-bit : {first condition severity stored i : ℕ} → first_condition ≤ bit → bit < word_bits → i ≡ (bit - first_condition) % 3
      → first ≡ head_of s.number condition 6 s.suppressed severity → severity < 65536 → condition ≡ condition_of s.form place → severity ≡ acting stored
      → stored ≡ stored_severity (kind_in s.form s.settings.now 0) (condition_of s.form place)
      → event_bytes (source_event s bit) ≡ bytes 8 (first + 65536 * i) ++ bytes 8 s.time
  condition-bit {first} {condition} {severity} {stored} {i} h l q e small c v w =
      let n : condition_of s.form place < 7 = small-condition s.form place (omega arith) in
      let f : first + 65536 * i ≡ head_of s.number condition (6 + (bit - first_condition) % 3) s.suppressed severity = omega arith in
      rw (
        le-ltb bit first_condition h,
        own-condition s.form s.settings.now 0 place bit refl,
        lt-ltb (condition_of s.form place) 7 n,
        ← w,
        ← v,
        ← c,
        f,
      )
      (event-bytes
      (record {
        alarm = s.number;
        condition = condition;
        kind = 6 + (bit - first_condition) % 3;
        suppressed = s.suppressed;
        severity = severity;
        time = s.time;
      })
      s.small (omega arith) (omega arith) small)
