use Rattle.std.proofs.Common.{◌≡◌, ◌++◌, length}
use Rattle.decl_limits.specs.Units.{names_in}
use Rattle.decl_parser.proofs.units.names_of.Given as goal

abbrev pub invariant-row : goal.invariant-row
invariant-row l = l.all.items ++ names_in l.rest ≡ names_in l.fn.types

abbrev pub decreases-row : goal.decreases-row
decreases-row l = length l.rest
