use Rattle.std.proofs.Common.{sym, ◌∙◌, arith}
use Rattle.decl_elements.specs.Shown.{node_of}
use Rattle.name_resolve.proofs.ChildrenLeft.{from_past, from_end, next}
use Rattle.expression_names.proofs.FieldSteps.{from_first_field}
use Rattle.expression_names.proofs.declared.fields_at.Goals as goal

pub loop-number-init : goal.loop-number-init
loop-number-init c = from_first_field _ _ _ _

pub returns-in-None : goal.returns-in-None
returns-in-None c = sym (from_past _ _ _ _ _ _ (sym c.in-None.ensures)) ∙ c.loop-number.invariant

pub loop-number-preserved : goal.loop-number-preserved
loop-number-preserved c =
    rw (c.both-finds.ensures, c.in_ok-more-in-Some.ensures, c.is_field_named.ensures) (sym (next _ _ _ _ _ _ (node_of c.in-Some.child) (sym c.in-Some.ensures)) ∙ c.loop-number.invariant)

pub returns : goal.returns
returns c = sym (from_end _ _ _ _ _ _ (omega (arith, c.children-number-end.ensures))) ∙ c.loop-number.invariant
