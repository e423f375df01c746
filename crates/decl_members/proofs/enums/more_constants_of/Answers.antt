use Rattle.std.proofs.Common.{refl, ◌∙◌, sym}
use Rattle.std.proofs.lemmas.Result.{err_from_is_err_and}
use Rattle.decl_grammar.specs.Form.{enum_rest, nest}
use Rattle.decl_grammar.specs.Grammar.{constant}
use Rattle.decl_grammar.proofs.Nests.{enum-row, row-more, row-last, row-fails, comma-smaller}
use Rattle.decl_members.proofs.enums.more_constants_of.Goals as goal

pub returns-in_err-next : goal.returns-in_err-next
returns-in_err-next c =
    let p = err_from_is_err_and c.from_residual-in_err-next.result c.from_residual-in_err-next.ensures.1 in
    rw (p.1, p.2) (row-fails c.args.room constant (nest enum_rest) (enum-row c.args.room) refl _ _ _ _ (sym c.is_next.ensures ∙ c.row-test.true) c.in_err-next.ensures c.row.invariant)

pub returns-in-None : goal.returns-in-None
returns-in-None c =
    row-last c.args.room constant (nest enum_rest) (enum-row c.args.room) refl c.row.all.items c.row.rest.now c.in_ok-next.next c.in_ok-next.after.now _ (sym c.is_next.ensures ∙ c.row-test.true) c.in_ok-next.ensures c.in-None.is c.row.invariant

pub row-smaller : goal.row-smaller
row-smaller c = comma-smaller c.args.room constant c.row.rest.now c.in_ok-next.next c.in_ok-next.after.now c.in_ok-next.ensures

pub row-preserved : goal.row-preserved
row-preserved c =
    rw c.in_ok-push-in-Some.ensures.items (row-more c.args.room constant (nest enum_rest) (enum-row c.args.room) refl c.row.all.items c.row.rest.now c.in_ok-next.next c.in-Some.constant c.in_ok-next.after.now _ (sym c.is_next.ensures ∙ c.row-test.true) c.in_ok-next.ensures c.in-Some.is c.row.invariant)
