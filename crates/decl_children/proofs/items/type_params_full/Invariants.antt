use Rattle.std.proofs.Common.{length}
use Rattle.decl_grammar.specs.Types.{type_param}
use Rattle.decl_children.proofs.CommaRows.{RowSame}
use Rattle.decl_children.proofs.items.type_params_full.Given as goal

abbrev pub invariant-row : goal.invariant-row
invariant-row l = RowSame 14 type_param l.fn.symbols l.count l.rest

abbrev pub decreases-row : goal.decreases-row
decreases-row l = length l.rest
