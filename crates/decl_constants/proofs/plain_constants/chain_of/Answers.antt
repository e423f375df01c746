use Rattle.std.proofs.Common.{◌∙◌, sym}
use Rattle.std.proofs.lemmas.Result.{err_from_is_err_and}
use Rattle.decl_constants.proofs.ChainReads.{chain-goes, chain-stops, chain-fails, chain-over, chain-smaller}
use Rattle.decl_constants.proofs.plain_constants.chain_of.Goals as goal

pub returns-in_err-more : goal.returns-in_err-more
returns-in_err-more c =
    let p = err_from_is_err_and c.from_residual-in_err-more.result c.from_residual-in_err-more.ensures.1 in
    rw (p.1, p.2) (chain-fails c.args.room c.row.rest.now _ _ (sym c.is_next.ensures ∙ c.row-test.true) c.in_err-more.ensures c.row.invariant)

pub row-smaller : goal.row-smaller
row-smaller c = chain-smaller c.args.room c.row.rest.now c.in_ok-more.more c.in_ok-more.after.now c.in_ok-more.ensures

pub row-preserved : goal.row-preserved
row-preserved c = chain-goes c.args.room c.row.rest.now c.in_ok-more.after.now c.in_ok-more.more _ (sym c.is_next.ensures ∙ c.row-test.true) c.in_ok-more.ensures c.if-not-more.false c.row.invariant

pub returns-then-not-more : goal.returns-then-not-more
returns-then-not-more c = chain-stops c.args.room c.row.rest.now c.in_ok-more.after.now c.in_ok-more.more _ (sym c.is_next.ensures ∙ c.row-test.true) c.in_ok-more.ensures c.if-not-more.true c.row.invariant

pub returns : goal.returns
returns c = rw (sym c.row.invariant ∙ chain-over c.args.room c.row.rest.now (sym c.is_next.ensures ∙ c.row-test.false)) c.chain_end_of.ensures
