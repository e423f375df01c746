use Rattle.std.proofs.Common.{◌≡◌, take, map}
use Rattle.project_units.specs.Plans.{name_of}
use Rattle.apt_host.proofs.build.names_of.Given as goal

-- the names so far
abbrev pub invariant-loop-processor : goal.invariant-loop-processor
invariant-loop-processor l = l.names ≡ map name_of (take l.processor-index l.key.processors)
