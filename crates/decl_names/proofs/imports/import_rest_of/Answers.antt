use Rattle.std.proofs.Common.{refl, ◌∙◌, sym, string_bytes}
use Rattle.std.proofs.lemmas.Result.{err_from_is_err_and}
use Rattle.decl_names.proofs.ImportRests.{import-goes, import-stars, import-fails, import-shut, import-smaller, option_shown}
use Rattle.decl_names.proofs.imports.import_rest_of.Goals as goal

pub returns-in_err-next : goal.returns-in_err-next
returns-in_err-next c =
    let p = err_from_is_err_and c.from_residual-in_err-next.result c.from_residual-in_err-next.ensures.1 in
    rw (p.1, p.2) (import-fails c.args.room (string_bytes c.row.text) c.row.rest.now _ _ (sym c.is_next.ensures ∙ c.row-test.true) c.in_err-next.ensures c.row.invariant)

pub returns-in-None : goal.returns-in-None
returns-in-None c =
    rw c.from_string-name.ensures (import-stars c.args.room (string_bytes c.row.text) c.row.rest.now _ c.in_ok-next.after.now _ (sym c.is_next.ensures ∙ c.row-test.true) c.in_ok-next.ensures (option_shown _ _ c.in-None.is) c.row.invariant)

pub row-smaller : goal.row-smaller
row-smaller c = import-smaller c.args.room c.row.rest.now _ c.in_ok-next.after.now c.in_ok-next.ensures

pub row-preserved : goal.row-preserved
row-preserved c =
    rw (c.in_ok-push_str-in-Some-2.ensures.bytes, c.in_ok-push_str-in-Some.ensures.bytes)
    (import-goes c.args.room (string_bytes c.row.text) c.row.rest.now _ c.in-Some.name.now c.in_ok-next.after.now _ (sym c.is_next.ensures ∙ c.row-test.true) c.in_ok-next.ensures (option_shown _ _ c.in-Some.is) c.row.invariant)
