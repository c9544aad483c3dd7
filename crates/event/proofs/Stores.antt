-- Laws of the stores that an event record takes. Assumes nothing.
use mathlib.Core.Path.{◌≡◌, sym, ap, ◌∙◌}
use mathlib.Core.List.{List, [], ◌∷◌, ◌++◌, append_assoc}
use mathlib.Core.Bool.{Bool, true, false, cond}
use Prim.Native.Nat.{ℕ, suc, ◌+◌, ◌*◌, ◌/◌, ◌%◌, ◌<◌}
use native.Mathlib.Omega.{arith}
use lib.ListN.{length, length-append}
use lib.Seq.{sets}
use Rattle.wire.specs.Number.{bytes}
use Rattle.wire.proofs.Laws.{length-bytes, sets-append, bytes-add}
use Rattle.event.specs.Event.{Event, event_bytes}
use Rattle.event.specs.Internal.Bits.{head_of}

pub length-event : (e : Event) → length (event_bytes e) ≡ 16
unfolding event_bytes
length-event e =
    omega (arith, length-append (bytes 2 e.severity) (0 ∷ 0 ∷ bytes 8 e.time), length-bytes 2 e.severity, length-bytes 8 e.time)

-- ---- a record as two numbers

-- a byte in front of a number's bytes
byte-first : (n b q : ℕ) → b < 256 → bytes (suc n) (b + 256 * q) ≡ b ∷ bytes n q
unfolding bytes
byte-first n b q h =
    let m : (b + 256 * q) % 256 ≡ b = omega arith in
    let d : (b + 256 * q) / 256 ≡ q = omega arith in
    rw (m, d)

one-small : (b : Bool) → cond b 1 0 < 256
one-small true = omega arith
one-small false = omega arith

-- a number of two bytes in four
four_bytes : (v : ℕ) → v < 65536 → bytes 4 v ≡ bytes 2 v ++ (0 ∷ 0 ∷ [])
unfolding bytes
four_bytes v h = let z : v / 65536 ≡ 0 = omega arith in bytes-add 2 2 v ∙ rw z

module _ (alarm condition kind : ℕ) (suppressed : Bool) (severity : ℕ) where
  head_bytes : alarm < 256 → condition < 256 → kind < 256 → severity < 65536
      → bytes 8 (head_of alarm condition kind suppressed severity) ≡ alarm ∷ condition ∷ kind ∷ cond suppressed 1 0 ∷ (bytes 2 severity ++ (0 ∷ 0 ∷ []))
  head_bytes a c k s =
      let b : ℕ = cond suppressed 1 0 in
      let e : head_of alarm condition kind suppressed severity ≡ alarm + 256 * (condition + 256 * (kind + 256 * (b + 256 * severity))) = omega arith in
      rw (
        e,
        byte-first 7 alarm (condition + 256 * (kind + 256 * (b + 256 * severity))) a,
        byte-first 6 condition (kind + 256 * (b + 256 * severity)) c,
        byte-first 5 kind (b + 256 * severity) k,
        byte-first 4 b severity (one-small suppressed),
        four_bytes severity s,
      )

-- the first eight bytes of an event as one number, and the time
pub event-bytes : (e : Event) → e.alarm < 256 → e.condition < 256 → e.kind < 256 → e.severity < 65536
    → event_bytes e ≡ bytes 8 (head_of e.alarm e.condition e.kind e.suppressed e.severity) ++ bytes 8 e.time
unfolding event_bytes
event-bytes e a c k s = rw (head_bytes e.alarm e.condition e.kind e.suppressed e.severity a c k s, append_assoc)

-- the head is stored, and then the time
pub record-stores : (out : List ℕ) (at head time : ℕ) {l m : List ℕ} → l ≡ sets out at (bytes 8 head) → m ≡ sets l (at + 8) (bytes 8 time)
    → m ≡ sets out at (bytes 8 head ++ bytes 8 time)
record-stores out at head time e f =
    f
    ∙ rw e
    (ap (λ (k : ℕ). sets (sets out at (bytes 8 head)) (at + k) (bytes 8 time)) (sym (length-bytes 8 head))
    ∙ sets-append out at (bytes 8 head) (bytes 8 time))
