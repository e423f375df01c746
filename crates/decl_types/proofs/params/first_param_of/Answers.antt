use Rattle.std.proofs.lemmas.Result.{err_from_is_err_and}
use Rattle.decl_grammar.specs.Types.{annotations}
use Rattle.decl_grammar.proofs.Nests.{fewer}
use Rattle.decl_types.proofs.ParamRows.{first-joined, first-fails, param-moved}
use Rattle.decl_types.proofs.params.first_param_of.Goals as goal

pub returns : goal.returns
returns c =
    param-moved (λ x. (x.0, x.1.now)) c.first_behind_of.result c.args.room c.in_ok-annotations.rest.now c.args.symbols.now _ _ (first-joined c.args.room c.args.symbols.now c.in_ok-annotations.rest.now _ (rw c.from_vec-annotations.ensures c.in_ok-annotations.ensures)) (fewer c.args.room annotations c.args.symbols.now _ _ c.in_ok-annotations.ensures) c.first_behind_of.ensures

pub returns-in_err-annotations : goal.returns-in_err-annotations
returns-in_err-annotations c =
    let p = err_from_is_err_and c.from_residual.result c.from_residual.ensures.1 in
    rw (p.1, p.2) (first-fails c.args.room c.args.symbols.now _ c.in_err-annotations.ensures)
