use Rattle.std.proofs.Common.{arith, ◌∙◌, sym}
use Rattle.std.proofs.lemmas.Result.{err_from_is_err_and}
use Rattle.decl_types.proofs.ParamRows.{params-goes, params-last, params-fails, params-stops}
use Rattle.decl_types.proofs.params.more_params_of.Goals as goal

pub returns-in_err-next : goal.returns-in_err-next
returns-in_err-next c =
    let p = err_from_is_err_and c.from_residual-in_err-next.result c.from_residual-in_err-next.ensures.1 in
    rw (p.1, p.2) (params-fails c.args.room c.row.all.items c.row.rest.now _ _ (sym c.is_next.ensures ∙ c.row-test.true) c.in_err-next.ensures c.row.invariant)

pub returns-then-last : goal.returns-then-last
returns-then-last c = params-last c.args.room c.row.all.items _ c.row.rest.now c.in_ok-next.after.now c.in_ok-next.next c.in_ok-next.last _ (sym c.is_next.ensures ∙ c.row-test.true) c.in_ok-next.ensures.0 c.if-last.true c.in_ok-add_param.ensures c.row.invariant

pub row-smaller : goal.row-smaller
row-smaller c = omega (arith, c.in_ok-next.ensures.1)

pub row-preserved : goal.row-preserved
row-preserved c = params-goes c.args.room c.row.all.items _ c.row.rest.now c.in_ok-next.after.now c.in_ok-next.next c.in_ok-next.last _ (sym c.is_next.ensures ∙ c.row-test.true) c.in_ok-next.ensures.0 c.if-last.false c.in_ok-add_param.ensures c.row.invariant

pub returns : goal.returns
returns c = params-stops c.args.room c.row.all.items c.row.rest.now _ (sym c.is_next.ensures ∙ c.row-test.false) c.row.invariant
