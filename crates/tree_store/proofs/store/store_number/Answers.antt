use Rattle.std.proofs.Common.{◌∙◌, ◌++◌, codes, ap, sym}
use Rattle.tree_store.proofs.StorePaths.{number_behind, store_path-elsewhere}
use Rattle.tree_store.proofs.store.store_number.Goals as goal

pub returns-in_err-strip_prefix : goal.returns-in_err-strip_prefix
returns-in_err-strip_prefix c = rw c.from_residual.ensures (λ n small. store_path-elsewhere n c.args.path.now c.in_err-strip_prefix.ensures.cases)

pub returns : goal.returns
returns c =
    let cut = c.in_ok-strip_prefix.ensures.cases in
    let behind = cut.1.1 ∙ ap (λ d. codes "out/store/" ++ d) (sym cut.2) in
    number_behind c.args.path.now c.in_ok-strip_prefix.field-0.now c.plain_number.result behind c.plain_number.ensures
