-- An error of memory, made a failure.
use mathlib.Core.Path.{◌≡◌}
use Rattle.std.specs.Prelude.{Result, Ok, Err, MatchResult, IsErrAnd, IfErr}
use Rattle.std.proofs.lemmas.Result.{err_from_is_err_and}
use Rattle.std.specs.IoError.{error_kind}
use Rattle.std.specs.declared.io.Error.{Error}
use Rattle.std.specs.declared.io.ErrorKind.TheVariants.{OutOfMemory}
use Rattle.text.specs.Internal.Failure.{IsOfMemory}
use Rattle.text.specs.declared.failure.Failure.{Failure}
use Rattle.text.specs.declared.failure.Failure.TheVariants.{Memory}

pub of_memory : {T : Type 0} (made : Result T Error) (mapped : Result T Failure) →
    MatchResult made (λ x. mapped ≡ Ok x) (λ e. IsErrAnd mapped (λ failure. failure ≡ Memory e)) →
    IfErr made (λ e. error_kind e ≡ OutOfMemory) → IfErr mapped (λ failure. IsOfMemory failure)
of_memory (Ok x) mapped is _ = rw is tt
of_memory (Err e) mapped is memory =
    let p = err_from_is_err_and mapped is in
    rw (p.1, p.2) memory
