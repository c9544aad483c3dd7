-- `scan_record::check::check_form` meets its contract: the invariant: none was refused so far, checking on from here answers what checking from
-- the first alarm answers, and the parts left fit. Assumes nothing.
use Rattle.std.proofs.Common.{◌≡◌, ◌+◌, ◌*◌, ◌-◌, ◌≤◌, length, Ok}
use Rattle.scan_record.specs.Part.{entry_size}
use Rattle.scan_record.specs.Internal.Forms.{check_form}
use Rattle.scan_record.proofs.check.check_form.Given as goal

abbrev pub invariant-loop-place : goal.invariant-loop-place
invariant-loop-place l =
    record {
      accepted : l.reply ≡ Ok tt;
      fits : l.at + entry_size l.form * (l.end - l.place) ≤ length l.bytes;
      rest : check_form l.form l.bytes (l.end - l.place) l.place l.at ≡ check_form l.form l.bytes (l.end - l.first) l.first l.begin;
    }
