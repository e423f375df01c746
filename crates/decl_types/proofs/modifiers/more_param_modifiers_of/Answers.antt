use Rattle.std.proofs.Common.{ℕ, List, ◌∙◌, sym, ap}
use Rattle.std.proofs.lemmas.Result.{err_from_is_err_and}
use Rattle.decl_grammar.specs.Reading.{starts}
use Rattle.decl_grammar.specs.Types.{with_mark, with_marks}
use Rattle.decl_grammar.specs.Grammar.{param_modifier}
use Rattle.decl_grammar.proofs.Firsts.{param_modifier_first, param_modifier_full}
use Rattle.decl_grammar.proofs.Loop.{fold-falls, folds, fold-ends, fold-stops}
use Rattle.decl_types.proofs.Marks.{marks}
use Rattle.decl_types.proofs.modifiers.more_param_modifiers_of.Goals as goal

pub returns-in_err-next : goal.returns-in_err-next
returns-in_err-next c =
    let p = err_from_is_err_and c.from_residual-in_err-next.result c.from_residual-in_err-next.ensures.1 in
    rw (p.1, p.2) (fold-ends c.args.room param_modifier with_mark with_marks c.row.all c.row.rest.now _ _ param_modifier_full (ap (λ (ks : List ℕ). starts ks c.row.rest.now) param_modifier_first ∙ sym c.starts_param_modifier.ensures ∙ c.row-test.true) c.in_err-next.ensures c.row.invariant)

pub row-smaller : goal.row-smaller
row-smaller c = fold-falls c.args.room param_modifier with_mark c.row.all c.row.rest.now c.in_ok-next.next c.in_ok-next.after.now param_modifier_full c.in_ok-next.ensures

pub row-preserved : goal.row-preserved
row-preserved c = folds c.args.room param_modifier with_mark with_marks marks c.row.all c.row.rest.now c.in_ok-next.next c.in_ok-next.after.now _ param_modifier_full (ap (λ (ks : List ℕ). starts ks c.row.rest.now) param_modifier_first ∙ sym c.starts_param_modifier.ensures ∙ c.row-test.true) c.in_ok-next.ensures c.row.invariant

pub returns : goal.returns
returns c = fold-stops c.args.room param_modifier with_mark with_marks marks c.row.all c.row.rest.now _ param_modifier_full (ap (λ (ks : List ℕ). starts ks c.row.rest.now) param_modifier_first ∙ sym c.starts_param_modifier.ensures ∙ c.row-test.false) c.row.invariant
