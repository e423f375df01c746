use Rattle.std.proofs.Common.{◌≡◌, [], length}
use Rattle.decl_grammar.specs.Constants.{class_end}
use Rattle.decl_constants.proofs.constants.class_end_of.Given as goal

abbrev pub invariant-row : goal.invariant-row
invariant-row l = class_end l.base l.around.items l.rest ≡ class_end l.fn.base [] l.fn.symbols

abbrev pub decreases-row : goal.decreases-row
decreases-row l = length l.rest
