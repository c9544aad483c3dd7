-- Of a piece at most one byte more than the longest line is kept.
use Rattle.std.proofs.Common.{◌≤◌, vec_len}
use Rattle.text.proofs.console.Console.read_piece.Given as goal

abbrev pub invariant-loop : goal.invariant-loop
invariant-loop g l = vec_len l.piece ≤ 20001
