-- `scan::scan::scan_bank` meets its contract: by what the check replied, and whether the buffer suffices for any events. Assumes nothing.
use mathlib.Core.Path.{refl, sym, ap, ◌∙◌}
use mathlib.Core.List.{List}
use Prim.Native.Nat.{ℕ, ◌/◌, ◌≤◌}
use native.Mathlib.Omega.{arith}
use lib.ListN.{length}
use Rattle.bank.specs.Lent.{Words}
use Rattle.bank.specs.Internal.Words.{bank_in}
use Rattle.bank.specs.Internal.Blocks.{kept_words}
use Rattle.sweep.specs.Internal.Sweep.{log_after}
use Rattle.sweep.proofs.Room.{room_after}
use Rattle.std.proofs.Common.{Ok}
use Rattle.std.proofs.lemmas.Result.{err_from_is_err_and}
use Rattle.scan.proofs.Bridge.{check-is, ready_for}
use Rattle.scan.proofs.Scans.{refused-buffer}
use Rattle.scan.proofs.Checked.{roomy-answer, roomy-words, roomy-out, answer-is, words_are, buffer-is, refused-answer, refused-words}
use Rattle.scan.proofs.scan.scan_bank.Goals as goal

pub returns-in_err-check_record : goal.returns-in_err-check_record
returns-in_err-check_record c =
    let a = c.args in
    let rec : List ℕ = a.bytes.now in
    let w : Words = kept_words a.settings.now a.kept.now in
    let refused = check-is w rec c.counts_in-counts.ensures (sym c.check_record.ensures ∙ c.in_err-check_record.was) in
    let left = refused-words w rec refused (length a.out.now) in
    let p = err_from_is_err_and c.from_residual.result c.from_residual.ensures.1 in
    record {
      value = rw (p.1, p.2) (refused-answer w rec refused (length a.out.now));
      same = (refl, refl);
      states_after = ap (λ (v : Words). v.states) left;
      marks_after = ap (λ (v : Words). v.marks) left;
      out_after = sym (refused-buffer (bank_in w) rec a.out.now refused);
    }

pub invariant_of-good : goal.invariant_of-good
invariant_of-good c =
    let a = c.args in
    let w : Words = kept_words a.settings.now a.kept.now in
    let accepted = sym c.check_record.ensures ∙ c.in_ok-check_record.was in
    record { few = (ready_for w a.bytes.now c.counts_in-counts.ensures accepted (omega arith, a.kept.now.states_long, a.kept.now.marks_long)).most }

pub scan_short-requires : goal.scan_short-requires
scan_short-requires c =
    let a = c.args in
    let w : Words = kept_words a.settings.now a.kept.now in
    let accepted = sym c.check_record.ensures ∙ c.in_ok-check_record.was in
    ready_for w a.bytes.now c.counts_in-counts.ensures accepted (omega arith, a.kept.now.states_long, a.kept.now.marks_long)

pub returns-then-out-most_bytes : goal.returns-then-out-most_bytes
returns-then-out-most_bytes c =
    let a = c.args in
    let rec : List ℕ = a.bytes.now in
    let w : Words = kept_words a.settings.now a.kept.now in
    let room = length a.out.now in
    let accepted = check-is w rec c.counts_in-counts.ensures (sym c.check_record.ensures ∙ c.in_ok-check_record.was) in
    let e = c.scan_short.ensures in
    let after = words_are w rec accepted room in
    record {
      value = e.value ∙ answer-is w rec accepted room;
      same = e.same;
      states_after = e.states_after ∙ ap (λ (v : Words). v.states) after;
      marks_after = e.marks_after ∙ ap (λ (v : Words). v.marks) after;
      out_after = e.out_after ∙ buffer-is w rec accepted a.out.now;
    }

pub scan_alarms-used-requires : goal.scan_alarms-used-requires
scan_alarms-used-requires c =
    let a = c.args in
    let w : Words = kept_words a.settings.now a.kept.now in
    let accepted = sym c.check_record.ensures ∙ c.in_ok-check_record.was in
    record {
      ready = ready_for w a.bytes.now c.counts_in-counts.ensures accepted (omega arith, a.kept.now.states_long, a.kept.now.marks_long);
      room = omega (arith, c.most_bytes.ensures, c.if-out-most_bytes.false);
    }

pub returns : goal.returns
returns c =
    let a = c.args in
    let rec : List ℕ = a.bytes.now in
    let w : Words = kept_words a.settings.now a.kept.now in
    let room = length a.out.now in
    let counts = c.counts_in-counts.ensures in
    let passed = sym c.check_record.ensures ∙ c.in_ok-check_record.was in
    let accepted = check-is w rec counts passed in
    let e = c.scan_alarms-used.ensures in
    let most = room_after w rec (ready_for w rec counts passed (omega arith, a.kept.now.states_long, a.kept.now.marks_long)) in
    let h : length (log_after w rec) ≤ room = omega (arith, most, c.most_bytes.ensures, c.if-out-most_bytes.false) in
    let after = roomy-words w rec room h ∙ words_are w rec accepted room in
    record {
      value = ap (λ (k : ℕ). Ok (k / 16)) e.value ∙ roomy-answer w rec room h ∙ answer-is w rec accepted room;
      same = e.same;
      states_after = e.states_after ∙ ap (λ (v : Words). v.states) after;
      marks_after = e.marks_after ∙ ap (λ (v : Words). v.marks) after;
      out_after = e.out_after ∙ roomy-out w rec a.out.now h ∙ buffer-is w rec accepted a.out.now;
    }
