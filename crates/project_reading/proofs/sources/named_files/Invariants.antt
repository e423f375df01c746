use Rattle.std.proofs.Common.{◌≡◌, map}
use Rattle.project_reading.specs.Project.{named}
use Rattle.project_reading.proofs.sources.named_files.Given as goal

-- the files so far
abbrev pub invariant-loop-source : goal.invariant-loop-source
invariant-loop-source l = l.files ≡ map named l.yielded
