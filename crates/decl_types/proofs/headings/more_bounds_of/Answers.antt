use Rattle.std.proofs.Common.{ℕ, List, ◌∙◌, sym, ap}
use Rattle.std.proofs.lemmas.Result.{err_from_is_err_and}
use Rattle.decl_grammar.specs.Reading.{starts}
use Rattle.decl_grammar.specs.Types.{next_bound}
use Rattle.decl_grammar.proofs.Firsts.{next_bound_full, next_bound_first}
use Rattle.decl_grammar.proofs.Loop.{falls, gathers, ends, gathered}
use Rattle.decl_types.proofs.headings.more_bounds_of.Goals as goal

pub returns-in_err-next : goal.returns-in_err-next
returns-in_err-next c =
    let p = err_from_is_err_and c.from_residual-in_err-next.result c.from_residual-in_err-next.ensures.1 in
    rw (p.1, p.2) (ends c.args.room next_bound _ _ _ _ next_bound_full (ap (λ (ks : List ℕ). starts ks c.row.rest.now) next_bound_first ∙ sym c.is_next.ensures ∙ c.row-test.true) c.in_err-next.ensures c.row.invariant)

pub row-smaller : goal.row-smaller
row-smaller c = falls c.args.room next_bound _ _ _ next_bound_full c.in_ok-next.ensures

pub row-preserved : goal.row-preserved
row-preserved c = rw c.in_ok-push.ensures.items (gathers c.args.room next_bound _ _ _ _ _ next_bound_full (ap (λ (ks : List ℕ). starts ks c.row.rest.now) next_bound_first ∙ sym c.is_next.ensures ∙ c.row-test.true) c.in_ok-next.ensures c.row.invariant)

pub returns : goal.returns
returns c = gathered c.args.room next_bound c.row.all.items c.row.rest.now _ next_bound_full (ap (λ (ks : List ℕ). starts ks c.row.rest.now) next_bound_first ∙ sym c.is_next.ensures ∙ c.row-test.false) c.row.invariant
