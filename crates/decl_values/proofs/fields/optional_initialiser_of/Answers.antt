use Rattle.std.proofs.Common.{◌∙◌, sym, refl, Ok, Err}
use Rattle.std.proofs.lemmas.Result.{err_from_is_err_and}
use Rattle.decl_values.proofs.FieldItems.{assigned-given, assigned-fails, unassigned-read}
use Rattle.decl_values.proofs.fields.optional_initialiser_of.Goals as goal

pub returns-in_err-rest : goal.returns-in_err-rest
returns-in_err-rest c =
    let p = err_from_is_err_and c.from_residual.result c.from_residual.ensures.1 in
    rw (p.1, p.2) (assigned-fails c.args.room c.args.symbols.now _ (sym c.is_next.ensures ∙ c.if-is_next.true) c.in_err-rest.ensures)

pub returns-then-is_next : goal.returns-then-is_next
returns-then-is_next c = assigned-given c.args.room c.args.symbols.now c.in_ok-rest.rest.now _ c.initialiser_of.result (sym c.is_next.ensures ∙ c.if-is_next.true) c.in_ok-rest.ensures c.initialiser_of.ensures

pub returns : goal.returns
returns c = unassigned-read c.args.room c.args.symbols.now _ (sym c.is_next.ensures ∙ c.if-is_next.false) refl refl
