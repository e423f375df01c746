use Rattle.std.proofs.Common.{◌≡◌, true, sym, subst, ◌∙◌}
use Rattle.decl_tree.specs.Legal.{is_legal}
use Rattle.decl_tree.specs.declared.compilation.UnitText.{UnitText}
use Rattle.unit_equality.proofs.SameShapes.{by_shapes}
use Rattle.unit_equality.proofs.units.is_equal.Goals as goal

pub returns-clause-shapes : goal.returns-clause-shapes
returns-clause-shapes c =
    by_shapes c.args.one.now c.args.other.now c.is_same_text.result
    (subst (λ (u : UnitText). is_legal u ≡ true) c.text.ensures.value c.text.ensures.legal)
    (subst (λ (u : UnitText). is_legal u ≡ true) c.text-2.ensures.value c.text-2.ensures.legal)
    (λ h. sym c.text.ensures.value ∙ c.is_same_text.ensures.0 h ∙ c.text-2.ensures.value, λ same. c.is_same_text.ensures.1 (c.text.ensures.value ∙ same ∙ sym c.text-2.ensures.value))
