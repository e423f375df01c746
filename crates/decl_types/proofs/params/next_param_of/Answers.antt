use Rattle.std.proofs.lemmas.Result.{err_from_is_err_and}
use Rattle.std.proofs.Common.{arith}
use Rattle.decl_grammar.specs.Grammar.{param_modifiers}
use Rattle.decl_grammar.proofs.Nests.{fewer}
use Rattle.decl_types.proofs.ParamRows.{next-joined, next-shut, next-fails, param-moved, one-fewer}
use Rattle.decl_types.proofs.params.next_param_of.Goals as goal

pub returns : goal.returns
returns c =
    param-moved (λ x. (x.0, x.1.now)) c.based_param_of.result c.args.room c.in_ok-modifiers.rest.now c.args.symbols.now _ _
    (next-joined c.args.room c.args.symbols.now _ c.in_ok-modifiers.rest.now _ c.in_ok-modifiers.modifiers c.in_ok-rest.ensures c.in_ok-modifiers.ensures)
    (omega (arith, one-fewer _ _ _ _ c.in_ok-rest.ensures, fewer c.args.room param_modifiers _ _ _ c.in_ok-modifiers.ensures)) c.based_param_of.ensures

pub returns-in_err-rest : goal.returns-in_err-rest
returns-in_err-rest c =
    let p = err_from_is_err_and c.from_residual.result c.from_residual.ensures.1 in
    rw (p.1, p.2) (next-shut c.args.room c.args.symbols.now _ c.in_err-rest.ensures)

pub returns-in_err-modifiers : goal.returns-in_err-modifiers
returns-in_err-modifiers c =
    let p = err_from_is_err_and c.from_residual-in_err-modifiers.result c.from_residual-in_err-modifiers.ensures.1 in
    rw (p.1, p.2) (next-fails c.args.room c.args.symbols.now c.in_ok-rest.rest.now _ _ c.in_ok-rest.ensures c.in_err-modifiers.ensures)
