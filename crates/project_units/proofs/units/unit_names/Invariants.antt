use Rattle.std.proofs.Common.{◌≡◌, ◌++◌}
use Rattle.std.specs.FinMap as fin
use Rattle.project_units.proofs.units.unit_names.Given as goal

-- the names of the sources, and those of the stubs so far
abbrev pub invariant-loop-name : goal.invariant-loop-name
invariant-loop-name l = l.names ≡ fin.keys l.table.table.source ++ l.yielded
