-- `meifgur_c::report_call::put_said` meets its contract: the report's bytes, copied to the front. Assumes nothing.
use Rattle.std.proofs.Common.{rules}
use mathlib.Core.Bool.{true}
use mathlib.Core.Path.{◌≡◌, sym, ap, ◌∙◌}
use mathlib.Core.List.{◌++◌}
use Prim.Native.Nat.{ℕ}
use native.Mathlib.Omega.{arith}
use lib.ListN.{length, drop, length-take}
use lib.Seq.{sets}
use Rattle.std.specs.Result.{is_ok}
use Rattle.wire.proofs.Front.{front-put}
use Rattle.meifgur_c.proofs.report_call.put_said.Goals as goal

pub copy_from_slice-requires : goal.copy_from_slice-requires
copy_from_slice-requires c =
    let long : length c.report_bytes.result ≡ 224 = search rules in
    simp length-take (omega (arith, c.requires, long))

pub returns-then-is_ok : goal.returns-then-is_ok
returns-then-is_ok c =
    let a = c.args in
    let bytes = c.report_bytes.result in
    let long : length bytes ≡ 224 = search rules in
    let ok : is_ok a.said.reply ≡ true = search rules in
    rw (ok, c.copy_from_slice.ensures.after)
    (ap (λ (k : ℕ). bytes ++ drop k a.out.now) (sym long) ∙ front-put a.out.now bytes (omega (arith, c.requires, long))
    ∙ ap (sets a.out.now 0) c.report_bytes.ensures)
