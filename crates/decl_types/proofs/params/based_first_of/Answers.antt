use Rattle.std.proofs.Common.{arith}
use Rattle.decl_grammar.specs.Form.{first_rest}
use Rattle.decl_grammar.specs.Types.{base_type}
use Rattle.decl_grammar.specs.Rule.{read_nest, reads}
use Rattle.std.proofs.lemmas.Result.{err_from_is_err_and}
use Rattle.decl_grammar.proofs.Nests.{fewer}
use Rattle.decl_types.proofs.ParamRows.{based-ends, based-fails, based-end-fails}
use Rattle.decl_types.proofs.params.based_first_of.Goals as goal

pub returns-in_err-base : goal.returns-in_err-base
returns-in_err-base c =
    let p = err_from_is_err_and c.from_residual.result c.from_residual.ensures.1 in
    rw (p.1, p.2) (based-fails (read_nest c.args.room first_rest) c.args.modifiers (reads c.args.room base_type c.args.symbols.now) _ c.in_err-base.ensures)

pub returns-in_err-around : goal.returns-in_err-around
returns-in_err-around c =
    let p = err_from_is_err_and c.from_residual-in_err-around.result c.from_residual-in_err-around.ensures.1 in
    rw (p.1, p.2) (based-end-fails (read_nest c.args.room first_rest) c.args.modifiers (reads c.args.room base_type c.args.symbols.now) c.in_ok-base.base c.in_ok-base.rest.now _ c.in_ok-base.ensures c.in_err-around.ensures)

pub returns : goal.returns
returns c = (
  based-ends c.args.room (read_nest c.args.room first_rest) c.args.modifiers (reads c.args.room base_type c.args.symbols.now) c.in_ok-base.base c.in_ok-base.rest.now c.in_ok-around.around.items c.in_ok-around.end c.in_ok-around.rest.now _ c.in_ok-base.ensures c.in_ok-around.ensures.0 c.in_ok-param.ensures,
  omega (arith, c.in_ok-around.ensures.1, fewer c.args.room base_type c.args.symbols.now _ _ c.in_ok-base.ensures),
)
