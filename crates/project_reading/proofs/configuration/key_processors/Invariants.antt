use Rattle.std.proofs.Common.{◌≡◌, map}
use Rattle.project_reading.specs.Configuration.{key_processor}
use Rattle.project_reading.proofs.configuration.key_processors.Given as goal

-- the processors so far
abbrev pub invariant-loop-processor : goal.invariant-loop-processor
invariant-loop-processor l = l.list ≡ map key_processor l.yielded
