-- Of which kind a failure is.
use Rattle.std.specs.Prelude.{◌≡◌, ⊤}
use Rattle.std.specs.IoError.{error_kind}
use Rattle.std.specs.declared.io.ErrorKind.TheVariants.{OutOfMemory}
use Rattle.text.specs.declared.failure.Failure.{Failure}
use Rattle.text.specs.declared.failure.Failure.TheVariants.{Input, Output, Memory}

-- memory failed
abbrev pub IsOfMemory : Failure → Type 0
IsOfMemory (Input error) = ⊥
IsOfMemory (Output error) = ⊥
IsOfMemory (Memory error) = error_kind error ≡ OutOfMemory

-- a write failed
abbrev pub IsOfOutput : Failure → Type 0
IsOfOutput (Input error) = ⊥
IsOfOutput (Output error) = ⊤
IsOfOutput (Memory error) = ⊥
