use Rattle.std.proofs.Common.{◌≡◌, length}
use Rattle.decl_grammar.specs.Form.{constant_chain}
use Rattle.decl_grammar.specs.Rule.{read_nest}
use Rattle.decl_constants.proofs.plain_constants.chain_of.Given as goal

abbrev pub invariant-row : goal.invariant-row
invariant-row l = read_nest l.room constant_chain l.rest ≡ read_nest l.room constant_chain l.fn.symbols

abbrev pub decreases-row : goal.decreases-row
decreases-row l = length l.rest
