use Rattle.std.proofs.Common.{◌≡◌}
use Rattle.std.specs.FinMap as fin
use Rattle.project_units.specs.Creations.{gathered, with_file}
use Rattle.project_units.proofs.sources.files_among.Given as goal

-- the files so far are those of the creations so far
abbrev pub invariant-loop-creation : goal.invariant-loop-creation
invariant-loop-creation l = l.files ≡ gathered with_file fin.empty l.yielded
