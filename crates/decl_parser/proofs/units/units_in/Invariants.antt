use Rattle.std.proofs.Common.{◌≡◌, ◌++◌}
use Rattle.decl_limits.specs.Units.{units_from, lines_from}
use Rattle.decl_parser.specs.Parsed.{UnitsLegal}
use Rattle.decl_parser.proofs.units.units_in.Given as goal

-- with the types to come there are the units and the lines of all of them, and their units are legal
abbrev pub invariant-loop-each : goal.invariant-loop-each
invariant-loop-each l = record {
  units : l.all ++ units_from l.fn.«package» l.fn.imports l.fn.siblings l.each-iterator.rest.items ≡ units_from l.fn.«package» l.fn.imports l.fn.siblings l.fn.types;
  lines : l.lines ++ lines_from l.each-iterator.rest.items ≡ lines_from l.fn.types;
  legal : UnitsLegal l.fn.«package» l.fn.imports l.fn.siblings l.each-iterator.rest.items;
}
