use Rattle.std.proofs.Common.{◌≡◌, IfOk, subst}
use Rattle.decl_elements.specs.Shown.{node_of}
use Rattle.name_resolve.specs.Finds.{Finds}
use Rattle.name_resolve.specs.Shown.{find_of, finds_of}
use Rattle.expression_names.proofs.FieldSteps.{declared_none, declared_some}
use Rattle.expression_names.proofs.declared.declared_fields.Goals as goal

pub returns-in-None : goal.returns-in-None
returns-in-None c = declared_none (find_of c.args.of.now) c.args.name.now _ c.as_slice.ensures.value c.in-None.ensures.value

pub returns-in-Some : goal.returns-in-Some
returns-in-Some c =
    let P : Finds → Type 0 = λ x. IfOk c.fields_at.result (λ f. finds_of f ≡ x) in
    subst P (declared_some (find_of c.args.of.now) c.args.name.now _ c.as_slice.ensures.value (node_of c.in-Some.place) c.in-Some.ensures.value) c.fields_at.ensures
