use Rattle.std.proofs.Common.{◌≡◌, IfOk, subst}
use Rattle.decl_elements.specs.Shown.{node_of}
use Rattle.name_resolve.specs.Finds.{Finds}
use Rattle.name_resolve.specs.Shown.{find_of, finds_of}
use Rattle.name_resolve.proofs.ChildRanges.{child-none, child-some}
use Rattle.name_resolve.proofs.declared.child_type.Goals as goal

pub returns-in-None : goal.returns-in-None
returns-in-None c = child-none (find_of c.args.of.now) c.args.name.now c.args.number _ c.as_slice.ensures.value c.in-None.ensures.value

pub returns-in-Some : goal.returns-in-Some
returns-in-Some c =
    let P : Finds → Type 0 = λ x. IfOk c.child_type_of.result (λ f. finds_of f ≡ x) in
    subst P (child-some (find_of c.args.of.now) c.args.name.now c.args.number _ c.as_slice.ensures.value (node_of c.in-Some.place) c.in-Some.ensures.value) c.child_type_of.ensures
