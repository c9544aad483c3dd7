-- The events of a scan are in its buffer, and the same as in one of zeros.
use mathlib.Core.Path.{◌≡◌, sym, ap, subst, ◌∙◌}
use mathlib.Core.List.{List}
use Prim.Native.Nat.{ℕ, ◌*◌}
use native.Mathlib.Omega.{arith}
use lib.ListN.{length, take, replicate, length-replicate}
use Rattle.std.specs.Prelude.{Ok}
use Rattle.std.specs.Io.KnownBytes.{Appends}
use Rattle.bank_text.specs.Internal.Owned.{words_of}
use Rattle.event.specs.Event.{events_enough}
use Rattle.scan.specs.Internal.Words.{answer_of, buffer_of}
use Rattle.scan.proofs.Fits.{fits}
use Rattle.meifgur.specs.Internal.Show.{event_lines}
use Rattle.meifgur.proofs.Fronts.{same-front}
use Rattle.meifgur.proofs.drive.answer_record.Goals as goal

pub overflow_mul-number : goal.overflow_mul-number
overflow_mul-number g c =
    let room = fits (words_of c.args.bank.now) c.args.bytes.now _ (sym c.scan.ensures.value ∙ c.in-Ok.is) in
    omega (arith, room)

pub shared_ref_as_front-write_events : goal.shared_ref_as_front-write_events
shared_ref_as_front-write_events g c =
    let room = fits (words_of c.args.bank.now) c.args.bytes.now _ (sym c.scan.ensures.value ∙ c.in-Ok.is) in
    omega (arith, room, c.told-events)

pub returns-in_ok-write_events-in-Ok : goal.returns-in_ok-write_events-in-Ok
returns-in_ok-write_events-in-Ok g c =
    let words = words_of c.args.bank.now in
    let bytes = c.args.bytes.now in
    let number = c.in-Ok.number in
    let zeros = replicate events_enough 0 in
    let said = sym c.scan.ensures.value ∙ c.in-Ok.is in
    let long : length c.args.events.now ≡ events_enough = c.told-events in
    let enough : answer_of words bytes events_enough ≡ Ok number = rw long at said in
    let front : take (number * 16) c.scan.new.events ≡ take (number * 16) (buffer_of words bytes zeros) =
    ap (take (number * 16)) c.scan.ensures.events_after
    ∙ same-front words bytes c.args.events.now zeros number (length-replicate {A = ℕ} events_enough 0 ∙ sym long) said in
    rw enough (subst (λ (events : List ℕ). Appends (g.W.Write.contents c.args.output.now) (g.W.Write.contents c.write_events.new.output)
    (event_lines events)) front c.in_ok-write_events-in-Ok.ensures)
