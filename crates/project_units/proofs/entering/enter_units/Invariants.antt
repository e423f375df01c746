use Rattle.std.proofs.Common.{◌≡◌}
use Rattle.project_units.specs.Units.{with_lines, enter_each}
use Rattle.project_units.proofs.entering.enter_units.Given as goal

-- the units that are left decide, with the lines that are left
abbrev pub invariant-loop-unit : goal.invariant-loop-unit
invariant-loop-unit l = enter_each l.part l.path l.table (with_lines l.unit-iterator.rest.items l.all_lines.rest.items) ≡ enter_each l.part l.path l.fn.table (with_lines l.fn.parsed.units l.fn.parsed.lines)
