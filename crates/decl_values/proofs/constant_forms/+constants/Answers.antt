use Rattle.std.proofs.Common.{refl, arith}
use Rattle.std.proofs.lemmas.Result.{err_from_is_err_and}
use Rattle.decl_grammar.specs.Form.{constant_value, nest}
use Rattle.decl_grammar.proofs.Nests.{some-is, none-fails, fewer}
use Rattle.decl_values.proofs.StepsSmaller.{listed-smaller}
use Rattle.decl_values.proofs.ConstantReads.{item-read, item-fails, item-ends, items-go, items-stop, items-fail}
use Rattle.decl_values.proofs.constant_forms.+constants.Goals as goal

pub constant_of-returns-then-room-gt0 : goal.constant_of-returns-then-room-gt0
constant_of-returns-then-room-gt0 t c = rw (some-is constant_value refl c.args.room c.args.symbols.now c.if-room-gt0.true) c.constant_form_of.ensures

pub constant_of-returns : goal.constant_of-returns
constant_of-returns t c = none-fails constant_value refl c.args.room c.args.symbols.now c.starts_constant.result c.shut.result c.if-room-gt0.false c.starts_constant.ensures c.shut.ensures

pub constant_item_of-returns-clause-item : goal.constant_item_of-returns-clause-item
constant_item_of-returns-clause-item t c = item-read c.args.room c.args.symbols.now c.in_ok-value.rest.now c.in_ok-more.rest.now c.in_ok-value.value c.in_ok-more.more c.in_ok-value.ensures c.in_ok-more.ensures

pub constant_item_of-returns-clause-smaller : goal.constant_item_of-returns-clause-smaller
constant_item_of-returns-clause-smaller t c =
    omega (arith, fewer c.args.room (nest constant_value) c.args.symbols.now _ c.in_ok-value.rest.now c.in_ok-value.ensures, listed-smaller c.in_ok-value.rest.now _ c.in_ok-more.rest.now c.in_ok-more.ensures)

pub constant_item_of-returns-in_err-value-clause-item : goal.constant_item_of-returns-in_err-value-clause-item
constant_item_of-returns-in_err-value-clause-item t c =
    let p = err_from_is_err_and c.from_residual.result c.from_residual.ensures.1 in
    rw (p.1, p.2) (item-fails c.args.room c.args.symbols.now _ c.in_err-value.ensures)

pub constant_item_of-returns-in_err-more-clause-item : goal.constant_item_of-returns-in_err-more-clause-item
constant_item_of-returns-in_err-more-clause-item t c =
    let p = err_from_is_err_and c.from_residual-in_err-more.result c.from_residual-in_err-more.ensures.1 in
    rw (p.1, p.2) (item-ends c.args.room c.args.symbols.now c.in_ok-value.rest.now c.in_ok-value.value _ c.in_ok-value.ensures c.in_err-more.ensures)

pub constant_items_of-returns-in_err-value : goal.constant_items_of-returns-in_err-value
constant_items_of-returns-in_err-value t c =
    let p = err_from_is_err_and c.from_residual-in_err-value.result c.from_residual-in_err-value.ensures.1 in
    rw (p.1, p.2) (items-fail c.args.room c.row.all.items c.row.rest.now _ _ c.in_err-value.ensures.item c.row.invariant)

pub constant_items_of-row-preserved : goal.constant_items_of-row-preserved
constant_items_of-row-preserved t c = rw c.in_ok-push.ensures.items (items-go c.args.room c.row.all.items c.row.rest.now c.in_ok-value.after.now c.in_ok-value.value c.in_ok-value.more _ c.in_ok-value.ensures.item c.if-not-more.false c.row.invariant)

pub constant_items_of-returns-then-not-more : goal.constant_items_of-returns-then-not-more
constant_items_of-returns-then-not-more t c = rw c.in_ok-push.ensures.items (items-stop c.args.room c.row.all.items c.row.rest.now c.in_ok-value.after.now c.in_ok-value.value c.in_ok-value.more _ c.in_ok-value.ensures.item c.if-not-more.true c.row.invariant)
