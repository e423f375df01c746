use Rattle.std.proofs.Common.{◌≡◌, ℕ, List, ◌∙◌, sym, ap}
use Rattle.std.proofs.lemmas.Result.{err_from_is_err_and}
use Rattle.decl_grammar.specs.Reading.{starts}
use Rattle.decl_grammar.specs.Types.{silently}
use Rattle.decl_grammar.specs.Expressions.{bare_dim}
use Rattle.decl_grammar.proofs.Loop.{falls, goes_on, ends, stops}
use Rattle.decl_constants.proofs.ConstantFirsts.{bare_dim_first, bare_dim_full}
use Rattle.decl_constants.proofs.plain_constants.more_bare_dims_of.Goals as goal

pub returns-in_err-after : goal.returns-in_err-after
returns-in_err-after c =
    let p = err_from_is_err_and c.from_residual-in_err-after.result c.from_residual-in_err-after.ensures.1 in
    rw (p.1, p.2) (ends c.args.room bare_dim silently _ _ _ bare_dim_full (ap (λ (ks : List ℕ). starts ks c.row.rest.now) bare_dim_first ∙ sym c.is_next.ensures ∙ c.row-test.true) c.in_err-after.ensures c.row.invariant)

pub row-smaller : goal.row-smaller
row-smaller c = falls c.args.room bare_dim _ _ _ bare_dim_full c.in_ok-after.ensures

pub row-preserved : goal.row-preserved
row-preserved c = goes_on c.args.room bare_dim silently _ _ _ _ bare_dim_full (ap (λ (ks : List ℕ). starts ks c.row.rest.now) bare_dim_first ∙ sym c.is_next.ensures ∙ c.row-test.true) c.in_ok-after.ensures c.row.invariant

pub returns : goal.returns
returns c = stops c.args.room bare_dim silently c.row.rest.now _ bare_dim_full (ap (λ (ks : List ℕ). starts ks c.row.rest.now) bare_dim_first ∙ sym c.is_next.ensures ∙ c.row-test.false) c.row.invariant
