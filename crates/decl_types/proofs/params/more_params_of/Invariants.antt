use Rattle.std.proofs.Common.{◌≡◌, length}
use Rattle.decl_grammar.specs.Form.{turned}
use Rattle.decl_types.specs.Params.{params_behind, later_params}
use Rattle.decl_types.proofs.params.more_params_of.Given as goal

abbrev pub invariant-row : goal.invariant-row
invariant-row l = turned (params_behind l.all.items) (later_params l.room l.rest) ≡ turned (params_behind l.fn.front.items) (later_params l.room l.fn.symbols)

abbrev pub decreases-row : goal.decreases-row
decreases-row l = length l.rest
