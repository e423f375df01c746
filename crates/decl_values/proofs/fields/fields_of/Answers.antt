use Rattle.std.proofs.Common.{sym}
use Rattle.std.proofs.lemmas.Result.{err_from_is_err_and}
use Rattle.decl_values.specs.FieldRows.{fields_from}
use Rattle.decl_values.proofs.RowItems.{so-starts, so-ends}
use Rattle.decl_values.proofs.fields.fields_of.Goals as goal

pub row-init : goal.row-init
row-init c = rw (c.new-all.ensures.items, c.in_ok-rest.ensures) (so-starts (fields_from c.args.room c.args.first c.args.brackets c.args.symbols.now))

pub returns-in_err-constant : goal.returns-in_err-constant
returns-in_err-constant c =
    let p = err_from_is_err_and c.from_residual-in_err-constant.result c.from_residual-in_err-constant.ensures.1 in
    rw (p.1, p.2) (c.in_err-constant.ensures.item c.row.name c.row.dims (fields_from c.args.room c.args.first c.args.brackets c.args.symbols.now) c.row.all.items c.row.invariant)

pub row-preserved : goal.row-preserved
row-preserved c = rw c.in_ok-push.ensures.items ((rw c.in-Some.is at (c.in_ok-constant.ensures.item c.row.name c.row.dims)) (fields_from c.args.room c.args.first c.args.brackets c.args.symbols.now) c.row.all.items c.row.invariant)

pub returns-in-None : goal.returns-in-None
returns-in-None c = rw c.in_ok-push.ensures.items (so-ends (fields_from c.args.room c.args.first c.args.brackets c.args.symbols.now) _ c.row.all.items c.row.far _ _ c.row.invariant (rw c.in-None.is at (c.in_ok-constant.ensures.item c.row.name c.row.dims)))
