use Rattle.std.proofs.Common.{◌≡◌, length}
use Rattle.decl_grammar.specs.Form.{many, turned}
use Rattle.decl_grammar.specs.Types.{silently}
use Rattle.decl_grammar.specs.Expressions.{bare_dim}
use Rattle.decl_grammar.specs.Rule.{reads}
use Rattle.decl_constants.proofs.plain_constants.more_bare_dims_of.Given as goal

abbrev pub invariant-row : goal.invariant-row
invariant-row l = turned silently (reads l.room (many bare_dim) l.rest) ≡ turned silently (reads l.room (many bare_dim) l.fn.symbols)

abbrev pub decreases-row : goal.decreases-row
decreases-row l = length l.rest
