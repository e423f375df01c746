use Rattle.std.proofs.Common.{refl, ◌∙◌, sym}
use Rattle.std.proofs.lemmas.Result.{err_from_is_err_and}
use Rattle.decl_grammar.specs.Types.{silently}
use Rattle.decl_grammar.specs.Grammar.{semicolon}
use Rattle.decl_grammar.proofs.Loop.{falls, goes_on, ends, stops}
use Rattle.decl_parser.proofs.info.semicolons_of.Goals as goal

pub returns-in_err-after : goal.returns-in_err-after
unfolding semicolon
returns-in_err-after c =
    let p = err_from_is_err_and c.from_residual-in_err-after.result c.from_residual-in_err-after.ensures.1 in
    rw (p.1, p.2) (ends c.args.room semicolon silently _ _ _ refl (sym c.is_next.ensures ∙ c.row-test.true) c.in_err-after.ensures c.row.invariant)

pub row-smaller : goal.row-smaller
unfolding semicolon
row-smaller c = falls c.args.room semicolon _ _ _ refl c.in_ok-after.ensures

pub row-preserved : goal.row-preserved
unfolding semicolon
row-preserved c = goes_on c.args.room semicolon silently _ _ _ _ refl (sym c.is_next.ensures ∙ c.row-test.true) c.in_ok-after.ensures c.row.invariant

pub returns : goal.returns
unfolding semicolon
returns c = stops c.args.room semicolon silently c.row.rest.now _ refl (sym c.is_next.ensures ∙ c.row-test.false) c.row.invariant
