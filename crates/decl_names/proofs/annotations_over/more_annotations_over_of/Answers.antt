use Rattle.std.proofs.Common.{◌≡◌, ℕ, List, ◌∙◌, sym, ap}
use Rattle.std.proofs.lemmas.Result.{err_from_is_err_and}
use Rattle.decl_grammar.specs.Reading.{starts}
use Rattle.decl_grammar.specs.Types.{silently}
use Rattle.decl_grammar.specs.Expressions.{annotation_over}
use Rattle.decl_grammar.proofs.Loop.{falls, goes_on, ends, stops}
use Rattle.decl_names.proofs.AnnotationFirsts.{annotation_over_first, annotation_over_full}
use Rattle.decl_names.proofs.annotations_over.more_annotations_over_of.Goals as goal

pub returns-in_err-rest-2 : goal.returns-in_err-rest-2
returns-in_err-rest-2 c =
    let p = err_from_is_err_and c.from_residual-in_err-rest-2.result c.from_residual-in_err-rest-2.ensures.1 in
    rw (p.1, p.2) (ends c.args.room annotation_over silently _ _ _ annotation_over_full (ap (λ (ks : List ℕ). starts ks c.row.rest.now) annotation_over_first ∙ sym c.starts_annotation.ensures ∙ c.row-test.true) c.in_err-rest-2.ensures c.row.invariant)

pub row-smaller : goal.row-smaller
row-smaller c = falls c.args.room annotation_over _ tt _ annotation_over_full c.in_ok-rest-2.ensures

pub row-preserved : goal.row-preserved
row-preserved c = goes_on c.args.room annotation_over silently _ tt _ _ annotation_over_full (ap (λ (ks : List ℕ). starts ks c.row.rest.now) annotation_over_first ∙ sym c.starts_annotation.ensures ∙ c.row-test.true) c.in_ok-rest-2.ensures c.row.invariant

pub returns : goal.returns
returns c = stops c.args.room annotation_over silently c.row.rest.now _ annotation_over_full (ap (λ (ks : List ℕ). starts ks c.row.rest.now) annotation_over_first ∙ sym c.starts_annotation.ensures ∙ c.row-test.false) c.row.invariant
