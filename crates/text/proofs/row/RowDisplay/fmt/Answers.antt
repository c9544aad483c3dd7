-- Digits and spaces are text.
use native.Mathlib.Omega.{arith}
use lib.ListN.{drop, length-drop}
use Prim.Native.Nat.{◌-◌}
use Rattle.std.proofs.lemmas.List.{take_all}
use Rattle.std.proofs.lemmas.Str.{IsUtf8-from_ascii}
use Rattle.text.specs.Internal.Row.{row_text}
use Rattle.text.proofs.row.RowDisplay.fmt.Goals as goal

pub unreachable-requires : goal.unreachable-requires
unreachable-requires g c =
    let start = c.put-start.result in
    let whole = take_all (147 - start) (drop start c.put-start.new.text) (omega (arith, length-drop start c.put-start.new.text)) in
    c.in_default.ensures.cases.0
    (rw (whole, c.put-start.ensures.written) (IsUtf8-from_ascii (row_text c.args.self.now.numbers) c.put-start.ensures.ascii))
