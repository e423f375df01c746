use Rattle.std.proofs.Common.{◌≡◌, length}
use Rattle.decl_grammar.specs.Form.{many, turned}
use Rattle.decl_grammar.specs.Types.{with_marks}
use Rattle.decl_grammar.specs.Grammar.{param_modifier}
use Rattle.decl_grammar.specs.Rule.{reads}
use Rattle.decl_types.proofs.modifiers.more_param_modifiers_of.Given as goal

abbrev pub invariant-row : goal.invariant-row
invariant-row l = turned (with_marks l.all) (reads l.room (many param_modifier) l.rest) ≡ turned (with_marks l.fn.front) (reads l.room (many param_modifier) l.fn.symbols)

abbrev pub decreases-row : goal.decreases-row
decreases-row l = length l.rest
