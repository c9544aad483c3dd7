-- `scan_record::check::check_alarms` meets its contract: the digital alarms and then the analog ones are all alarms. Assumes nothing.
use mathlib.Core.Path.{◌≡◌, sym, ◌∙◌}
use Prim.Native.Nat.{◌+◌, ◌*◌, ◌-◌}
use native.Mathlib.Nat.{sub-zero}
use native.Mathlib.Omega.{arith}
use Rattle.std.proofs.lemmas.Result.{err_from_is_err_and}
use Rattle.scan_record.proofs.Forms.{both-forms}
use Rattle.scan_record.proofs.check.check_alarms.Goals as goal

pub returns-in_err-check_form : goal.returns-in_err-check_form
returns-in_err-check_form c =
    let a = c.args in
    let found = rw sub-zero at (sym c.check_form.ensures ∙ c.in_err-check_form.was) in
    let p = err_from_is_err_and c.from_residual.result c.from_residual.ensures.1 in
    rw (p.1, p.2, both-forms a.bytes.now a.good.counts, found)

pub returns : goal.returns
returns c =
    let a = c.args in
    let found = rw sub-zero at (sym c.check_form.ensures ∙ c.in_ok-check_form.was) in
    let left : c.in_all.result - a.good.counts.digital ≡ a.good.counts.analog = omega arith in
    let begin : c.analog_begin-begin.result ≡ 8 + 5 * a.good.counts.digital = omega arith in
    rw (both-forms a.bytes.now a.good.counts, found, ← left, ← begin) c.check_form-2.ensures
