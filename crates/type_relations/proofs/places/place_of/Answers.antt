use Rattle.std.proofs.Common.{List, ℕ, sym, ap, ◌∙◌, arith}
use Rattle.decl_elements.specs.Nodes.{down, root}
use Rattle.type_relations.proofs.PlacesOfElements.{place-within, place-package, no_children}
use Rattle.type_relations.proofs.places.place_of.Goals as goal

pub returns-in-Some-clause-value : goal.returns-in-Some-clause-value
returns-in-Some-clause-value c =
    c.place_at.ensures.value
    ∙ ap (λ (p : List ℕ). down p (root c.in-Some.unit.now)) c.as_slice.ensures
    ∙ sym (place-within c.args.table.now c.args.at.now c.in-Some.unit.now (sym c.in-Some.ensures.value))

pub returns-in-Some-element-clause-value : goal.returns-in-Some-element-clause-value
returns-in-Some-element-clause-value c = place-package c.args.table.now c.args.at.now _ (sym c.in-None.ensures.value) (sym c.in-Some-element.ensures)

pub returns-in-Some-element-clause-few : goal.returns-in-Some-element-clause-few
returns-in-Some-element-clause-few c = omega (arith, no_children)
