-- Outcomes of calls of the system.
use Rattle.std.specs.Prelude.{◌≡◌, Result, Ok, IfOk, IfErr, IsErrAnd}
use Rattle.std.specs.IoError.{error_kind}
use Rattle.std.specs.declared.io.Error.{Error}
use Rattle.std.specs.declared.io.ErrorKind.TheVariants.{OutOfMemory}
use Rattle.apt_cli.specs.declared.messages.Failure.{Failure}

-- there was no memory, the allocator's or the system's
abbrev pub IsWantOfMemory : Failure → Type 0
IsWantOfMemory failure = error_kind failure.error ≡ OutOfMemory

-- a value is handed on, and an error stands in a failure
pub record IsFailureOf {T : Type 0} (outcome : Result T Error) (result : Result T Failure) : Type 0 where
  pub ok : IfOk outcome (λ value. result ≡ Ok value)
  pub err : IfErr outcome (λ error. IsErrAnd result (λ failure. failure.error ≡ error))
