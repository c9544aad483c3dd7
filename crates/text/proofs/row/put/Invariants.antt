-- The numbers from an index on stand at the end of the block, each behind a space.
use Rattle.std.specs.Prelude.{◌≡◌, ◌+◌, ◌*◌, ◌≤◌, length, drop}
use Rattle.text.proofs.Rows.{spaced}
use Rattle.text.proofs.row.put.Given as goal

abbrev pub invariant-loop-left : goal.invariant-loop-left
invariant-loop-left l =
    (drop l.at l.text ≡ spaced (drop l.left l.numbers))
    × (length l.text ≡ 147)
    × (21 * l.left ≤ l.at)
    × (l.at + length l.numbers ≤ 147 + l.left)
    × (l.left ≤ length l.numbers)
