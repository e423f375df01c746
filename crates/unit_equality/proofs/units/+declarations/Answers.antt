use Rattle.std.proofs.Common.{sym, ◌∙◌}
use Rattle.unit_equality.proofs.PartsEqual.{declaration_by_members}
use Rattle.unit_equality.proofs.units.+declarations.Goals as goal

pub is_same_declaration-returns : goal.is_same_declaration-returns
is_same_declaration-returns t c =
    declaration_by_members c.args.one.now c.args.other.now c.are_same_members.result
    (c.is_same_kind.ensures.0 c.if-not-is_same_kind.false)
    (c.is_same_name.ensures.0 c.if-not-is_same_name.false)
    (c.is_same_number.ensures.0 c.if-not-is_same_number.false)
    (sym c.as_slice.ensures ∙ c.are_same_annotations.ensures.0 c.if-not-are_same_annotations.false ∙ c.as_slice-2.ensures)
    (c.is_same_doc.ensures.0 c.if-not-is_same_doc.false)
    (sym c.as_slice-3.ensures ∙ c.are_same_type_params.ensures.0 c.if-not-are_same_type_params.false ∙ c.as_slice-4.ensures)
    (c.is_same_superclass.ensures.0 c.if-not-is_same_superclass.false)
    (sym c.as_slice-5.ensures ∙ c.are_same_types.ensures.0 c.if-not-are_same_types.false ∙ c.as_slice-6.ensures)
    (λ h. sym c.as_slice-7.ensures ∙ c.are_same_members.ensures.0 h ∙ c.as_slice-8.ensures, λ same. c.are_same_members.ensures.1 (c.as_slice-7.ensures ∙ same ∙ sym c.as_slice-8.ensures))
