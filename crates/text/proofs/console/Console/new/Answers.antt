-- Both buffers fail for memory alone.
use Rattle.std.proofs.lemmas.Result.{err_from_is_err_and}
use Rattle.text.proofs.Failures.{of_memory}
use Rattle.text.proofs.console.Console.new.Goals as goal

pub returns-in_err-input-clause-err : goal.returns-in_err-input-clause-err
returns-in_err-input-clause-err g c =
    let p = err_from_is_err_and c.from_residual.result c.from_residual.ensures.1 in
    let failed = of_memory c.with_capacity.result c.map_err.result c.map_err.ensures.cases c.with_capacity.ensures.err in
    rw (p.1, p.2) (rw c.in_err-input.was at failed)

pub returns-in_err-output-clause-err : goal.returns-in_err-output-clause-err
returns-in_err-output-clause-err g c =
    let p = err_from_is_err_and c.from_residual-in_err-output.result c.from_residual-in_err-output.ensures.1 in
    let failed = of_memory c.with_capacity-2.result c.map_err-2.result c.map_err-2.ensures.cases c.with_capacity-2.ensures.err in
    rw (p.1, p.2) (rw c.in_err-output.was at failed)
