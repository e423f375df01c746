use Rattle.std.proofs.Common.{◌≡◌, length}
use Rattle.decl_grammar.specs.Constants.{class_named}
use Rattle.decl_constants.proofs.constants.class_named_of.Given as goal

abbrev pub invariant-row : goal.invariant-row
invariant-row l = class_named l.parts.items l.rest ≡ class_named l.fn.front.items l.fn.symbols

abbrev pub decreases-row : goal.decreases-row
decreases-row l = length l.rest
