use Rattle.std.proofs.Common.{◌≡◌, map, take}
use Rattle.element_table.specs.UnitNames.{unit_name}
use Rattle.project_units.proofs.entering.names_of.Given as goal

-- the names so far
abbrev pub invariant-loop-unit : goal.invariant-loop-unit
invariant-loop-unit l = l.names ≡ map unit_name (take l.unit-index l.units)
