use Rattle.std.proofs.Common.{arith, ◌∙◌, ap, length}
use Rattle.std.proofs.lemmas.Result.{err_from_is_err_and}
use Rattle.decl_grammar.specs.Form.{param_rest, turned}
use Rattle.decl_grammar.specs.Rule.{read_nest}
use Rattle.decl_types.specs.Params.{with_items, param_step}
use Rattle.decl_types.proofs.ParamSteps.{items-none, param-steps, step-goes, step-ends, step-fails, param-step-falls}
use Rattle.decl_types.proofs.params.param_end_of.Goals as goal

pub row-init : goal.row-init
row-init c = (ap (λ ds. turned (with_items ds) (read_nest c.args.room param_rest c.in_ok-rest.rest.now)) c.new-all.ensures.items ∙ (items-none (read_nest c.args.room param_rest c.in_ok-rest.rest.now) ∙ ap (read_nest c.args.room param_rest) c.in_ok-rest.ensures), omega (arith, ap length c.in_ok-rest.ensures))

pub returns-in_err-next : goal.returns-in_err-next
returns-in_err-next c =
    let p = err_from_is_err_and c.from_residual-in_err-next.result c.from_residual-in_err-next.ensures.1 in
    rw (p.1, p.2) (step-fails c.args.room (read_nest c.args.room param_rest) param_step (param-steps c.args.room) c.row.all.items c.row.rest.now _ _ c.in_err-next.ensures c.row.invariant.0)

pub returns-in-Some : goal.returns-in-Some
returns-in-Some c = (
  step-ends c.args.room (read_nest c.args.room param_rest) param_step (param-steps c.args.room) c.row.all.items c.row.rest.now _ c.in-Some.end c.in_ok-next.after.now _ c.in_ok-next.ensures c.in-Some.is c.row.invariant.0,
  omega (arith, param-step-falls c.args.room c.row.rest.now _ c.in_ok-next.after.now c.in_ok-next.ensures, c.row.invariant.1),
)

pub row-smaller : goal.row-smaller
row-smaller c = param-step-falls c.args.room c.row.rest.now _ c.in_ok-next.after.now c.in_ok-next.ensures

pub row-preserved : goal.row-preserved
row-preserved c = (
  rw c.in_ok-push-in-None.ensures.items (step-goes c.args.room (read_nest c.args.room param_rest) param_step (param-steps c.args.room) c.row.all.items c.row.rest.now _ c.in_ok-next.after.now _ c.in_ok-next.ensures c.in-None.is c.row.invariant.0),
  omega (arith, param-step-falls c.args.room c.row.rest.now _ c.in_ok-next.after.now c.in_ok-next.ensures, c.row.invariant.1),
)
