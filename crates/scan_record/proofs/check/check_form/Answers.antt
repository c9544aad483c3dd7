-- `scan_record::check::check_form` meets its contract. Assumes nothing.
use mathlib.Core.Path.{sym, ap, ◌∙◌}
use Prim.Native.Nat.{ℕ, ◌-◌, ◌<◌}
use native.Mathlib.Omega.{arith}
use Rattle.std.proofs.Common.{◌≡◌, ◌+◌}
use Rattle.scan_record.specs.Internal.Forms.{check_form}
use Rattle.scan_record.proofs.Entries.{entry_past}
use Rattle.scan_record.proofs.Forms.{form-next, form-stop, form-end, part-fits}
use Rattle.scan_record.proofs.check.check_form.Goals as goal

pub entry_at-requires : goal.entry_at-requires
entry_at-requires c =
    let l = c.loop-place in
    let fits = part-fits c.args.form l.at c.loop-place-test.true l.invariant.fits in
    omega arith

pub loop-place-preserved : goal.loop-place-preserved
loop-place-preserved c =
    let l = c.loop-place in
    let a = c.args in
    let here : l.place < a.end = c.loop-place-test.true in
    let found = sym c.entry_at.ensures ∙ c.in-Ok.is in
    record {
      accepted = l.invariant.accepted;
      fits = rw (entry_past a.form a.bytes.now l.at (l.place + 1) found) (part-fits a.form l.at here l.invariant.fits);
      rest = sym (form-next a.form a.bytes.now l.at here found) ∙ l.invariant.rest;
    }

pub returns-in-Err : goal.returns-in-Err
returns-in-Err c =
    let l = c.loop-place in
    let a = c.args in
    let found = sym c.entry_at.ensures ∙ c.in-Err.is in
    sym (form-stop a.form a.bytes.now l.at c.loop-place-test.true found) ∙ l.invariant.rest

pub returns-after-loop-place : goal.returns-after-loop-place
returns-after-loop-place c =
    let l = c.loop-place in
    let a = c.args in
    let end : l.place ≡ a.end = omega arith in
    l.invariant.accepted ∙ sym (form-end a.form a.bytes.now l.place l.at)
    ∙ ap (λ (k : ℕ). check_form a.form a.bytes.now (k - l.place) l.place l.at) end ∙ l.invariant.rest
