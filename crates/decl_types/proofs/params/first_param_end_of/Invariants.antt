use Rattle.std.proofs.Common.{◌≡◌, ◌≤◌, length}
use Rattle.decl_grammar.specs.Form.{first_rest, turned}
use Rattle.decl_grammar.specs.Rule.{read_nest}
use Rattle.decl_types.specs.Params.{with_items}
use Rattle.decl_types.proofs.params.first_param_end_of.Given as goal

abbrev pub invariant-row : goal.invariant-row
invariant-row l = (turned (with_items l.all.items) (read_nest l.room first_rest l.rest) ≡ read_nest l.room first_rest l.fn.symbols) × (length l.rest ≤ length l.fn.symbols)

abbrev pub decreases-row : goal.decreases-row
decreases-row l = length l.rest
