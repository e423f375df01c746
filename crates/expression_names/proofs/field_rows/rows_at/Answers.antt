use Rattle.std.proofs.Common.{◌≡◌, ◌+◌, ℕ, List, sym, ap, ◌∙◌, arith}
use Rattle.decl_elements.specs.Shown.{node_of}
use Rattle.decl_elements.specs.Walk.{place_of}
use Rattle.name_resolve.specs.Finds.{one_if, both}
use Rattle.name_resolve.specs.Shown.{find_of, child_of}
use Rattle.name_resolve.proofs.ChildrenLeft.{from_child, from_past, from_end, next}
use Rattle.expression_names.specs.Fields.{is_field_named}
use Rattle.expression_names.specs.FieldsByName.{found_by}
use Rattle.expression_names.proofs.NamedFields.{rows-begin}
use Rattle.expression_names.proofs.field_rows.rows_at.Goals as goal

pub loop-number-init : goal.loop-number-init
loop-number-init c = (
  c.in_ok-rows.ensures.of,
  rows-begin c.in_ok-rows.rows (find_of c.args.of.now) c.in_ok-rows.ensures.of (node_of c.args.place) c.in_ok-rows.ensures.value,
)

pub returns-in-None-clause-value : goal.returns-in-None-clause-value
returns-in-None-clause-value c = λ q. sym (from_past _ _ _ _ _ _ (sym c.in-None.ensures)) ∙ c.loop-number.invariant.1 q

pub loop-number-preserved : goal.loop-number-preserved
loop-number-preserved c =
    let f = find_of c.args.of.now in
    let node = node_of c.args.place in (
      c.add_child.ensures.of ∙ c.loop-number.invariant.0,
      λ q.
          ap (λ finds. from_child (is_field_named q) f.part f.unit (place_of f.path node) finds (c.loop-number.number + 1))
          (c.in_ok-add_child-in-Some.ensures.value q
          ∙ ap (λ g. both (found_by c.loop-number.rows q) (one_if (is_field_named q (node_of c.in-Some.child)) (child_of g c.loop-number.number))) c.loop-number.invariant.0)
          ∙ sym (next _ _ _ _ _ _ (node_of c.in-Some.child) (sym c.in-Some.ensures)) ∙ c.loop-number.invariant.1 q,
    )

pub returns-clause-value : goal.returns-clause-value
returns-clause-value c = λ q. sym (from_end _ _ _ _ _ _ (omega (arith, c.children-number-end.ensures))) ∙ c.loop-number.invariant.1 q
