use Rattle.std.proofs.Common.{◌≡◌, ℕ, List, ◌∙◌, sym, ap}
use Rattle.std.proofs.lemmas.Result.{err_from_is_err_and}
use Rattle.decl_grammar.specs.Reading.{starts}
use Rattle.decl_grammar.specs.Types.{silently}
use Rattle.decl_grammar.specs.Expressions.{plus_constant}
use Rattle.decl_grammar.proofs.Loop.{falls, goes_on, ends, stops}
use Rattle.decl_constants.proofs.ConstantFirsts.{plus_constant_first, plus_constant_full}
use Rattle.decl_constants.proofs.plain_constants.more_plus_of.Goals as goal

pub returns-in_err-rest-2 : goal.returns-in_err-rest-2
returns-in_err-rest-2 c =
    let p = err_from_is_err_and c.from_residual-in_err-rest-2.result c.from_residual-in_err-rest-2.ensures.1 in
    rw (p.1, p.2) (ends c.args.room plus_constant silently _ _ _ plus_constant_full (ap (λ (ks : List ℕ). starts ks c.row.rest.now) plus_constant_first ∙ sym c.is_next.ensures ∙ c.row-test.true) c.in_err-rest-2.ensures c.row.invariant)

pub row-smaller : goal.row-smaller
row-smaller c = falls c.args.room plus_constant _ tt _ plus_constant_full c.in_ok-rest-2.ensures

pub row-preserved : goal.row-preserved
row-preserved c = goes_on c.args.room plus_constant silently _ tt _ _ plus_constant_full (ap (λ (ks : List ℕ). starts ks c.row.rest.now) plus_constant_first ∙ sym c.is_next.ensures ∙ c.row-test.true) c.in_ok-rest-2.ensures c.row.invariant

pub returns : goal.returns
returns c = stops c.args.room plus_constant silently c.row.rest.now _ plus_constant_full (ap (λ (ks : List ℕ). starts ks c.row.rest.now) plus_constant_first ∙ sym c.is_next.ensures ∙ c.row-test.false) c.row.invariant
