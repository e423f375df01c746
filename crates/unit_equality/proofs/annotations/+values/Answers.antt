use Rattle.std.proofs.Common.{sym, ◌∙◌}
use Rattle.unit_equality.proofs.PartsEqual.{annotation_by_values}
use Rattle.unit_equality.proofs.annotations.+values.Goals as goal

pub is_same_annotation-returns : goal.is_same_annotation-returns
is_same_annotation-returns t c =
    annotation_by_values c.args.one.now c.args.other.now c.are_same_pairs.result
    (c.is_same_name.ensures.0 c.if-not-is_same_name.false)
    (λ h. sym c.as_slice.ensures ∙ c.are_same_pairs.ensures.0 h ∙ c.as_slice-2.ensures, λ same. c.are_same_pairs.ensures.1 (c.as_slice.ensures ∙ same ∙ sym c.as_slice-2.ensures))
